use Rattle.std.proofs.Common.{◌≡◌, ◌++◌, append_assoc, ℕ, List, suc, ◌+◌, ◌-◌, ◌*◌, ◌≤◌, take, drop, length, ap, sym, ◌∙◌, subst, arith, true, Err, Ok, ◌⊎◌, inl}
use Rattle.std.specs.Prelude.{◌==◌, is_some, if◌then◌else◌}
use Rattle.std.proofs.lemmas.Bool.Decides.{nat_tests}
use Rattle.std.proofs.Math.Seq.{take-add}
use Rattle.std.proofs.lemmas.List.{take_all, drop-drop, length-drop, length-take, length-append}
use Rattle.page_memory.specs.declared.fault.MemFault.TheVariants.{Memory, Trailing}
use Rattle.page_memory.specs.File.{pages_onto}
use Rattle.std.specs.FinMap as finite
use Rattle.page_memory.specs.inner.Frames.{pages_in, IsTable}
use Rattle.kx_fields.proofs.Fields.{AreBytes-drop}
use Rattle.kx_fields.proofs.Bytes.{AreBytes-take}
use Rattle.page_memory.proofs.Reading.{pages_onto-ok, pages_onto-fails, pages_onto-end, pages_onto-trailing}
use Rattle.kx_fields.specs.Fields.{AreBytes, IsBlock}
use Rattle.page_memory.proofs.Changes.{IsTable-empty, pages-empty, absent-empty, IsTable-added, pages-added, absent-added}
use Rattle.page_memory.proofs.file.table_of.Goals as goal

pub returns-in-Err-clause-exact : goal.returns-in-Err-clause-exact
returns-in-Err-clause-exact c =
    let more : c.args.count - c.loop-i.i ≡ suc (c.args.count - (c.loop-i.i + 1)) = omega arith in
    subst (λ r. (r ≡ Err c.in-Err.e) ⊎ (c.in-Err.e ≡ Memory)) c.loop-i.invariant.same (pages_onto-fails (length c.args.bytes.now) (16 + 4104 * c.loop-i.i) c.loop-i.low (pages_in (take (16 + 4104 * c.loop-i.i) c.args.bytes.now) c.loop-i.places) _ _ c.loop-i.rest.now c.in-Err.e more c.in-Err.ensures.exact)

-- the bytes up to the end of the page that was cut off the rest
slot_more : (bytes rest frame : List ℕ) (n m : ℕ) → rest ≡ drop n bytes → frame ≡ take 4096 (drop 8 rest) → m ≡ n + 4104 → take m bytes ≡ take n bytes ++ take 8 (drop n bytes) ++ frame
slot_more bytes rest frame n m at_n is end =
    ap (λ k. take k bytes) end
    ∙ take-add n 4104 bytes
    ∙ ap (λ t. take n bytes ++ t) (take-add 8 4096 (drop n bytes))
    ∙ sym (append_assoc (take n bytes) (take 8 (drop n bytes)) (take 4096 (drop 8 (drop n bytes))))
    ∙ ap (λ t. take n bytes ++ take 8 (drop n bytes) ++ take 4096 (drop 8 t)) (sym at_n)
    ∙ ap (λ t. take n bytes ++ take 8 (drop n bytes) ++ t) (sym is)

length-slot_head : (bytes : List ℕ) (n : ℕ) → n + 8 ≤ length bytes → length (take n bytes ++ take 8 (drop n bytes)) ≡ n + 8
length-slot_head bytes n h = omega (arith, length-append (take n bytes) (take 8 (drop n bytes)), length-take n bytes, length-take 8 (drop n bytes), length-drop n bytes)

after_cut : (bytes rest after : List ℕ) (n : ℕ) → rest ≡ drop n bytes → after ≡ drop 4096 (drop 8 rest) → after ≡ drop (n + 8 + 4096) bytes
after_cut bytes rest after n at_n is = is ∙ ap (λ t. drop 4096 (drop 8 t)) at_n ∙ ap (drop 4096) (drop-drop 8 n bytes) ∙ drop-drop 4096 (n + 8) bytes

-- the frame of the page that was cut off
is_page : (bytes rest frame : List ℕ) (n : ℕ) → AreBytes bytes → rest ≡ drop n bytes → 4104 ≤ length rest → frame ≡ take 4096 (drop 8 rest) → IsBlock 4096 frame
is_page bytes rest frame n small at_n long is =
    let rest_small : AreBytes rest = subst AreBytes (sym at_n) (AreBytes-drop n bytes small) in
    subst (IsBlock 4096) (sym is) (record {
      long = omega (arith, long, length-take 4096 (drop 8 rest), length-drop 8 rest);
      each = AreBytes-take 4096 (drop 8 rest) (AreBytes-drop 8 rest rest_small);
    })

pub loop-i-init : goal.loop-i-init
loop-i-init c =
    let bytes = c.args.bytes.now in
    let none = c.new-places.ensures.empty in
    let all : c.args.count - 0 ≡ c.args.count = omega arith in
    let head : length (take 16 bytes) ≤ 16 = omega (arith, length-take 16 bytes) in
    record {
      table = IsTable-empty (take 16 bytes) c.new-places.result (AreBytes-take 16 bytes (λ k. omega (arith, c.type_inv.bytes k))) head none;
      new = λ q le. absent-empty c.new-places.result q none;
      count = c.new-places.ensures.len;
      room = c.requires.headed;
      rest = c.split_at.ensures.back;
      same = ap (λ n. pages_onto (length bytes) 16 0 (pages_in (take 16 bytes) c.new-places.result) n c.split_at.result.1.now) all ∙ ap (λ m. pages_onto (length bytes) 16 0 m c.args.count c.split_at.result.1.now) (pages-empty (take 16 bytes) c.new-places.result none) ∙ ap (pages_onto (length bytes) 16 0 finite.empty c.args.count) (c.split_at.ensures.back ∙ sym (drop-drop 8 8 bytes));
    }

pub loop-i-preserved : goal.loop-i-preserved
loop-i-preserved c =
    let bytes = c.args.bytes.now in
    let rest = c.loop-i.rest.now in
    let m = c.loop-i.places in
    let t = c.insert.new.self in
    let i = c.loop-i.i in
    let n = 16 + 4104 * i in
    let place = 24 + 4104 * i in
    let xs = take n bytes in
    let heads = take 8 (drop n bytes) in
    let page = c.in-Ok.next.0 in
    let frame = c.in-Ok.next.1.now in
    let at_n = c.loop-i.invariant.rest in
    let cut = c.in-Ok.ensures.long in
    let differs = c.in_ok-insert.ensures.updates.0 in
    let more : c.args.count - i ≡ suc (c.args.count - (i + 1)) = omega arith in
    let next : 16 + 4104 * (i + 1) ≡ n + 4104 = omega arith in
    let all : n + 4104 ≤ length bytes = omega (arith, cut, ap length at_n, length-drop n bytes) in
    let small : AreBytes bytes = λ k. omega (arith, c.type_inv.bytes k) in
    let grown = slot_more bytes rest frame n (16 + 4104 * (i + 1)) at_n c.in-Ok.ensures.frame next in
    let is_frame = is_page bytes rest frame n small at_n cut c.in-Ok.ensures.frame in
    let at_place : n + 8 ≡ place = omega arith in
    let headed : length (xs ++ heads) ≡ place = length-slot_head bytes n (omega (arith, all)) ∙ at_place in
    let slot : place ≡ 24 + 4104 * length m.entries = ap (λ k. 24 + 4104 * k) (sym c.loop-i.invariant.count) in
    let new = c.in_ok-insert.ensures.old ∙ c.loop-i.invariant.new page c.in-Ok.ensures.rises in
    let counted : length t.entries ≡ length m.entries + 1 = c.in_ok-insert.ensures.len ∙ ap (λ o. length m.entries + (if is_some o then 0 else 1)) new in
    let pages : pages_in (take (16 + 4104 * (i + 1)) bytes) t ≡ finite.insert (pages_in xs m) page frame =
    ap (λ zs. pages_in zs t) grown ∙ pages-added xs heads frame m t page place c.loop-i.invariant.table headed is_frame.long differs in
    let step = pages_onto-ok (length bytes) n c.loop-i.low (pages_in xs m) _ _ rest (page, frame, c.in-Ok.next.2.now) more c.in-Ok.ensures.exact in
    let at_next : n + 8 + 4096 ≡ 16 + 4104 * (i + 1) = omega arith in
    record {
      table = rw grown (IsTable-added xs heads frame m t page place c.loop-i.invariant.table headed slot (AreBytes-take 8 (drop n bytes) (AreBytes-drop n bytes small)) is_frame c.in-Ok.ensures.page differs counted);
      new = rw c.number-low.ensures.value (absent-added m t page place c.loop-i.low differs c.in-Ok.ensures.rises c.loop-i.invariant.new);
      count = omega (arith, counted, c.loop-i.invariant.count);
      room = omega (arith, all);
      rest = after_cut bytes rest c.in-Ok.next.2.now n at_n c.in-Ok.ensures.rest ∙ ap (λ k. drop k bytes) at_next;
      same = rw (c.number-low.ensures.value, pages) (ap (λ k. pages_onto (length bytes) k (page + 1) (finite.insert (pages_in xs m) page frame) (c.args.count - (i + 1)) c.in-Ok.next.2.now) next ∙ sym step ∙ c.loop-i.invariant.same);
    }

-- where nothing is left, all bytes were read
all_read : (bytes rest : List ℕ) (n : ℕ) → rest ≡ drop n bytes → (length rest == 0) ≡ true → take n bytes ≡ bytes
all_read bytes rest n at_n none =
    let nothing : length rest ≡ 0 = grind (arith, nat_tests, none) in
    take_all n bytes (omega (arith, nothing, ap length at_n, length-drop n bytes))

pub returns-then-not-is_empty-clause-exact : goal.returns-then-not-is_empty-clause-exact
returns-then-not-is_empty-clause-exact c =
    let all : c.loop-i.i ≡ c.args.count = omega arith in
    let none : c.args.count - c.loop-i.i ≡ 0 = omega arith in
    inl (sym c.loop-i.invariant.same ∙ pages_onto-trailing (length c.args.bytes.now) _ _ _ _ _ none (sym c.is_empty.ensures ∙ c.if-not-is_empty.true) ∙ ap (λ i. Err (Trailing (16 + 4104 * i))) all)

pub returns-clause-exact : goal.returns-clause-exact
returns-clause-exact c =
    let none : c.args.count - c.loop-i.i ≡ 0 = omega arith in
    let empty = sym c.is_empty.ensures ∙ c.if-not-is_empty.false in
    sym c.loop-i.invariant.same ∙ pages_onto-end (length c.args.bytes.now) _ _ _ _ _ none empty ∙ ap (λ zs. Ok (pages_in zs c.loop-i.places)) (all_read c.args.bytes.now c.loop-i.rest.now (16 + 4104 * c.loop-i.i) c.loop-i.invariant.rest empty) ∙ ap (λ m. Ok (pages_in c.args.bytes.now m)) (sym c.new.ensures)

pub returns-clause-table : goal.returns-clause-table
returns-clause-table c =
    let empty = sym c.is_empty.ensures ∙ c.if-not-is_empty.false in
    rw c.new.ensures (subst (λ zs. IsTable zs c.loop-i.places) (all_read c.args.bytes.now c.loop-i.rest.now (16 + 4104 * c.loop-i.i) c.loop-i.invariant.rest empty) c.loop-i.invariant.table)
