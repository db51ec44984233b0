use Rattle.std.proofs.Common.{◌≡◌, ◌∙◌, ◌+◌, ◌-◌, ◌++◌, ℕ, List, length, take, drop, append_assoc, ap, arith}
use Rattle.std.proofs.lemmas.Grind.{common_steps}
use Rattle.std.proofs.lemmas.List.{length-append}
use Rattle.sha2.specs.Sha256.{sha256}
use Rattle.sha2.proofs.Facts256.{length-sha256}
use Rattle.segments.specs.Values.{SegmentValue}
use Rattle.load_record.specs.File.{segment_text}
use Rattle.load_record.proofs.body.put_before.Goals as goal

front_dropped : (xs ys : List ℕ) (n : ℕ) → n ≡ length xs → drop n (xs ++ ys) ≡ ys
front_dropped xs ys n e = grind (arith, common_steps)

front_taken : (xs ys : List ℕ) (n : ℕ) → n ≡ length xs → take n (xs ++ ys) ≡ xs
front_taken xs ys n e = grind (arith, common_steps)

-- what was put behind the first bytes comes to stand before them
rotation : (first bytes head digest : List ℕ) (n k : ℕ) → n ≡ length (((first ++ bytes) ++ head) ++ digest) → k ≡ length bytes + (length head + length digest)
    → drop (n - k) (((first ++ bytes) ++ head) ++ digest) ++ take (n - k) (((first ++ bytes) ++ head) ++ digest) ≡ bytes ++ (head ++ (digest ++ first))
rotation first bytes head digest n k all some =
    let put = bytes ++ (head ++ digest) in
    let place : n - k ≡ length first = omega (arith, all, some, length-append ((first ++ bytes) ++ head) digest, length-append (first ++ bytes) head, length-append first bytes) in
    ap (λ xs. drop (n - k) xs ++ take (n - k) xs) (append_assoc (first ++ bytes) head digest ∙ append_assoc first bytes (head ++ digest))
    ∙ ap (λ xs. xs ++ take (n - k) (first ++ put)) (front_dropped first put (n - k) place)
    ∙ ap (λ xs. put ++ xs) (front_taken first put (n - k) place)
    ∙ append_assoc bytes (head ++ digest) first
    ∙ ap (λ xs. bytes ++ xs) (append_assoc head digest first)

pub returns : goal.returns
unfolding segment_text
returns c =
    let first = c.args.segment.bytes in
    let bytes = c.args.bytes.now in
    let head = c.head_of-head.result in
    let digest = sha256 first in
    let n = c.extend_from_slice-3.new.self.len in
    let k = length bytes + c.front_size.result in
    let made : c.segment.inside.bytes.items ≡ first = ap (λ (s : SegmentValue). s.bytes) c.segment.view_is in
    let items : c.extend_from_slice-3.new.self.items ≡ ((first ++ bytes) ++ head) ++ digest =
    c.in_ok-extend_from_slice-3.ensures.items
    ∙ ap (λ (xs : List ℕ). xs ++ c.args.digest.now) (c.in_ok-extend_from_slice-2.ensures.items ∙ ap (λ (xs : List ℕ). xs ++ c.bytes.result.now) (c.in_ok-extend_from_slice.ensures.items ∙ ap (λ (xs : List ℕ). xs ++ bytes) (c.in_ok-reserve_exact.ensures.items ∙ made)))
    ∙ ap (λ (xs : List ℕ). ((first ++ bytes) ++ xs) ++ c.args.digest.now) c.bytes.ensures.value
    ∙ ap (λ (xs : List ℕ). ((first ++ bytes) ++ head) ++ xs) c.requires in
    let all : n ≡ length (((first ++ bytes) ++ head) ++ digest) = c.extend_from_slice-3.new.self.ok.0 ∙ ap length items in
    let some : k ≡ length bytes + (length head + length digest) = omega (arith, c.bytes.ensures.length, ap length c.bytes.ensures.value, length-sha256 first, c.front_size.ensures) in
    c.rotate_right.ensures.items
    ∙ ap (λ (xs : List ℕ). drop (n - k) xs ++ take (n - k) xs) items
    ∙ rotation first bytes head digest n k all some
    ∙ ap (λ (xs : List ℕ). bytes ++ (xs ++ (digest ++ first))) c.head_of-head.ensures.value
