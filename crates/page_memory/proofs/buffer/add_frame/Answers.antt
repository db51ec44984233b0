use Rattle.std.proofs.Common.{◌≡◌, ◌≤◌, ◌+◌, ◌*◌, ◌-◌, ◌++◌, length, take, drop, ap, sym, ◌∙◌, arith, append_assoc, List, ℕ}
use Rattle.std.specs.Prelude.{replicate}
use Rattle.std.proofs.lemmas.List.{length-take, length-append, length-replicate, drop-replicate, take-replicate}
use Rattle.kx_pages.specs.Bytes.{page_of}
use Rattle.kx_pages.proofs.Bytes.{page_of-fits, length-page_of}
use Rattle.kx_fields.specs.Fields.{AreBytes, zeros}
use Rattle.kx_fields.proofs.Bytes.{AreBytes-take, AreBytes-zeros}
use Rattle.page_memory.proofs.Bytes.{IsBlock-page_of}
use Rattle.page_memory.proofs.Changes.{none_in, pages-added, IsTable-added}
use Rattle.page_memory.proofs.buffer.add_frame.Goals as goal

-- the heads in front of a frame behind n bytes, which end where slot m begins
length-heads : (n m : ℕ) (xs : List ℕ) → length xs ≡ n → n - 16 ≡ 4104 * m → length (xs ++ take (24 + 4104 * m - n) (replicate 24 0)) ≡ 24 + 4104 * m
length-heads n m xs long full =
    let zeros : List ℕ = replicate 24 0 in
    let gap = 24 + 4104 * m - n in
    let few : gap ≤ 24 = omega (arith, full) in
    omega (arith, few, full, long, length-append xs (take gap zeros), length-take gap zeros, length-replicate {A = ℕ} 24 0)

zero_heads : AreBytes (replicate 24 0)
unfolding zeros
zero_heads = AreBytes-zeros 24

-- behind the heads come bytes, and behind these the rest of a page of zeros: they are the page
page_appended : (xs ys zs front bytes : List ℕ) → length bytes ≤ 4096 → xs ≡ front → ys ≡ xs ++ bytes → zs ≡ ys ++ take (4096 - length bytes) (drop (length bytes) (replicate 4096 0)) → zs ≡ front ++ page_of bytes
page_appended xs ys zs front bytes fits a b d =
    let n = 4096 - length bytes in
    let rest : List ℕ = take n (drop (length bytes) (replicate 4096 0)) in
    let zeros : rest ≡ replicate n 0 = ap (take n) (drop-replicate (length bytes) 4096 0) ∙ take-replicate n n 0 (omega arith) in
    d
    ∙ ap (λ us. us ++ rest) (b ∙ ap (λ us. us ++ bytes) a)
    ∙ append_assoc front bytes rest
    ∙ ap (λ us. front ++ us) (ap (λ us. bytes ++ us) zeros ∙ sym (page_of-fits bytes fits))

pub insert-requires : goal.insert-requires
insert-requires c = none_in c.args.frames.now.items c.args.table.now.places c.args.p c.requires.absent

pub returns-clause-ok : goal.returns-clause-ok
returns-clause-ok c =
    let xs = c.args.frames.now.items in
    let m = c.len.result in
    let n = c.len-2.result in
    let heads : List ℕ = take (24 + 4104 * m - n) (replicate 24 0) in
    let heads_behind : c.append.new.frames.items ≡ xs ++ heads = c.append.ensures.items ∙ ap (λ ys. ys ++ heads) c.reserve.ensures.items in
    let page_behind = page_appended _ _ _ _ c.args.bytes.now c.requires.fits heads_behind c.append-2.ensures.items c.append-3.ensures.items in
    let long : length xs ≡ n = omega (arith, c.args.frames.now.ok.0, c.len-2.ensures) in
    let full : n - 16 ≡ 4104 * m = omega (arith, c.requires.old.full, long, c.len.ensures.len) in
    rw page_behind (pages-added xs heads (page_of c.args.bytes.now) c.args.table.now.places c.insert.new.self.places c.args.p (24 + 4104 * m) c.requires.old (length-heads n m xs long full) (length-page_of c.args.bytes.now) c.in_ok-insert.ensures.differs)

pub returns-clause-table : goal.returns-clause-table
returns-clause-table c =
    let xs = c.args.frames.now.items in
    let m = c.len.result in
    let n = c.len-2.result in
    let heads : List ℕ = take (24 + 4104 * m - n) (replicate 24 0) in
    let heads_behind : c.append.new.frames.items ≡ xs ++ heads = c.append.ensures.items ∙ ap (λ ys. ys ++ heads) c.reserve.ensures.items in
    let page_behind = page_appended _ _ _ _ c.args.bytes.now c.requires.fits heads_behind c.append-2.ensures.items c.append-3.ensures.items in
    let long : length xs ≡ n = omega (arith, c.args.frames.now.ok.0, c.len-2.ensures) in
    let full : n - 16 ≡ 4104 * m = omega (arith, c.requires.old.full, long, c.len.ensures.len) in
    let slot : 24 + 4104 * m ≡ 24 + 4104 * length c.args.table.now.places.entries = ap (λ k. 24 + 4104 * k) c.len.ensures.len in
    rw page_behind (IsTable-added xs heads (page_of c.args.bytes.now) c.args.table.now.places c.insert.new.self.places c.args.p (24 + 4104 * m) c.requires.old (length-heads n m xs long full) slot (AreBytes-take _ (replicate 24 0) zero_heads) (IsBlock-page_of c.args.bytes.now (λ k. omega (arith, c.type_inv.bytes k))) c.number-number.ensures.valid c.in_ok-insert.ensures.differs c.in_ok-insert.ensures.length)
