-- What stands behind the command: nothing, or zeros and the record of the rows that are left.
use Rattle.std.proofs.Common.{◌≡◌, ℕ, ◌+◌, ◌-◌, ◌*◌, ◌<◌, ◌≤◌, List, [], ◌∷◌, ◌++◌, append_assoc, append-nil, length, length-append, take, drop, refl, sym, ap, ◌∙◌, Bool, true, false, cond, arith, length-drop}
use Rattle.std.specs.Prelude.{get_or, replicate, slice_index, nat_lt}
use Rattle.std.specs.List.{flat_map}
use Rattle.std.proofs.Math.Seq.{drop-append-add}
use Rattle.std.proofs.lemmas.Bool.Decides.{nat_tests}
use Rattle.std.proofs.lemmas.List.{take-replicate, take_at, drop_at, drop-drop, drop_all, get_or-drop, get_or-append_right, get_or_append_left}
use Rattle.kx_fields.specs.Fields.{zeros, bytes_at}
use Rattle.kx_fields.specs.Formats.{read}
use Rattle.kx_fields.specs.inner.Formats.{IsFormat, Fits}
use Rattle.kx_fields.proofs.Bytes.{length-zeros, AreBytes-zeros}
use Rattle.kx_fields.proofs.Formats.{length-written, read_written}
use Rattle.memory_map.specs.declared.row.Row.{Row}
use Rattle.boot_params.specs.declared.setup_data.SetupHead.{SetupHead}
use Rattle.boot_params.specs.declared.zero_page.ZeroPage.{ZeroPage}
use Rattle.boot_params.specs.ZeroPage.{row_text, page_text}
use Rattle.boot_params.specs.SetupData.{setup_head, head_text, head_of, record_text, nul_end, record_place, extension}
use Rattle.boot_params.specs.Params.{params_length}
use Rattle.boot_params.specs.inner.Params.{IsFilled}
use Rattle.boot_params.proofs.Rows.{rows_size}
use Rattle.boot_params.proofs.Segment.{IsSegment, first_page, one_row, zero_there}

pub setup_head_is : IsFormat 16 setup_head
setup_head_is = record { numbered = λ at fits. refl; whole = λ at fits. refl; apart = refl }

pub head_size : (h : SetupHead) → length (head_text h) ≡ 16
unfolding head_text
head_size h = length-written 16 setup_head h (zeros 16) setup_head_is (length-zeros 16)

pub fill_taken : (n : ℕ) → n ≤ 8 → take n (replicate 8 0) ≡ zeros n
unfolding zeros
fill_taken n few = take-replicate n 8 0 few

-- how many zeros there are
abbrev pub gap : ℕ → ℕ
gap n = record_place n - nul_end n

-- where there are rows
pub extension_with_rows : (n : ℕ) (rows : List Row) → 0 < length rows → extension n rows ≡ zeros (gap n) ++ (head_text (head_of (length rows)) ++ flat_map row_text rows)
unfolding extension record_text
extension_with_rows n [] some = absurd (omega arith)
extension_with_rows n (r ∷ rows) some = refl

extension_without_rows : (n : ℕ) → extension n [] ≡ []
unfolding extension
extension_without_rows n = refl

-- and where there are none
pub none_left : (n : ℕ) (rows : List Row) (items : List ℕ) → length rows ≡ 0 → items ≡ items ++ extension n rows
none_left n [] items none = sym (append-nil items) ∙ ap (λ l. items ++ l) (sym (extension_without_rows n))
none_left n (r ∷ rows) items none = absurd (omega (arith, none))

-- zeros, head and rows were put
pub all_put : (n : ℕ) (rows : List Row) (items filled headed done head : List ℕ) → 0 < length rows → filled ≡ items ++ zeros (gap n) → headed ≡ filled ++ head → head ≡ head_text (head_of (length rows)) → done ≡ headed ++ flat_map row_text rows → done ≡ items ++ extension n rows
all_put n rows items filled headed done head some a b c e =
    let these = flat_map row_text rows in
    e
    ∙ ap (λ l. l ++ these) (b ∙ ap (λ l. l ++ head) a)
    ∙ append_assoc (items ++ zeros (gap n)) head these
    ∙ append_assoc items (zeros (gap n)) (head ++ these)
    ∙ ap (λ h. items ++ (zeros (gap n) ++ (h ++ these))) c
    ∙ ap (λ l. items ++ l) (sym (extension_with_rows n rows some))

-- what the bytes are that have the record: something that ends behind the NUL, the zeros, the head and the rows
pub record IsExtended (n : ℕ) (rows : List Row) (front items : List ℕ) : Type 0 where
  pub is : items ≡ front ++ (zeros (gap n) ++ (head_text (head_of (length rows)) ++ flat_map row_text rows))
  pub ends : length front ≡ nul_end n

pub segment_extended : (header : List ℕ) (z : ZeroPage) (rows : List Row) (command items : List ℕ) → IsSegment header z rows command (extension (length command) (drop 128 rows)) items → 128 < length rows → IsExtended (length command) (drop 128 rows) (page_text header z (take 128 rows) ++ (command ++ 0 ∷ [])) items
segment_extended header z rows command items s more =
    let page = page_text header z (take 128 rows) in
    let long = first_page header z rows s.short in
    let left = length-drop 128 rows in
    let rest = extension (length command) (drop 128 rows) in
    record {
      is = s.is
          ∙ ap (λ l. page ++ l) (sym (append_assoc command (0 ∷ []) rest))
          ∙ sym (append_assoc page (command ++ 0 ∷ []) rest)
          ∙ ap (λ l. (page ++ (command ++ 0 ∷ [])) ++ l) (extension_with_rows (length command) (drop 128 rows) (omega (arith, left, more)));
      ends = omega (arith, length-append page (command ++ 0 ∷ []), length-append command (0 ∷ []), long);
    }

-- the zeros
pub extended_is_filled : (n : ℕ) (rows : List Row) (front items : List ℕ) → IsExtended n rows front items → IsFilled n items
extended_is_filled n rows front items e = record {
  multiple = omega arith;
  behind = omega arith;
  few = omega arith;
  zeros = λ k from to.
      let ends = e.ends in
      let head = head_text (head_of (length rows)) ++ flat_map row_text rows in
      let long = length-zeros (gap n) in
      ap (λ l. slice_index l k) e.is
      ∙ get_or-append_right front (zeros (gap n) ++ head) (nul_end n) k 0 ends from
      ∙ get_or_append_left (zeros (gap n)) head 0 (k - nul_end n) (omega (arith, long, from, to))
      ∙ zero_there (gap n) (k - nul_end n);
}

-- what follows them
behind_zeros : (n : ℕ) (rows : List Row) (front items : List ℕ) → IsExtended n rows front items → drop (record_place n) items ≡ head_text (head_of (length rows)) ++ flat_map row_text rows
behind_zeros n rows front items e =
    let head = head_text (head_of (length rows)) ++ flat_map row_text rows in
    let ends = e.ends in
    let place : record_place n ≡ length front + gap n = omega (arith, ends) in
    ap (λ l. drop (record_place n) l) e.is
    ∙ ap (λ k. drop k (front ++ (zeros (gap n) ++ head))) place
    ∙ drop-append-add front (zeros (gap n) ++ head) (gap n)
    ∙ drop_at (zeros (gap n)) head (gap n) (length-zeros (gap n))

head_there : (n : ℕ) (rows : List Row) (front items : List ℕ) → IsExtended n rows front items → bytes_at (record_place n) 16 items ≡ head_text (head_of (length rows))
head_there n rows front items e =
    let head = head_text (head_of (length rows)) in
    ap (take 16) (behind_zeros n rows front items e)
    ∙ take_at head (flat_map row_text rows) 16 (head_size (head_of (length rows)))

pub head_read : (n : ℕ) (rows : List Row) (front items : List ℕ) → IsExtended n rows front items → length rows ≤ 1024 → read setup_head (bytes_at (record_place n) 16 items) ≡ head_of (length rows)
unfolding head_text
head_read n rows front items e few =
    let h = head_of (length rows) in
    let fits : Fits setup_head h = (omega arith, (omega arith, (omega (arith, few), tt))) in
    ap (read setup_head) (head_there n rows front items e)
    ∙ read_written 16 setup_head h (zeros 16) setup_head_is refl fits (length-zeros 16) (AreBytes-zeros 16)

pub more_there : (n : ℕ) (rows : List Row) (front items : List ℕ) (j : ℕ) (d : Row) → IsExtended n rows front items → j < length rows → bytes_at (record_place n + 16 + 20 * j) 20 items ≡ row_text (get_or rows j d)
more_there n rows front items j d e below =
    let head = head_text (head_of (length rows)) in
    let size = head_size (head_of (length rows)) in
    ap (take 20)
    (sym (drop-drop (20 * j) (record_place n + 16) items)
    ∙ ap (drop (20 * j)) (sym (drop-drop 16 (record_place n) items))
    ∙ ap (λ l. drop (20 * j) (drop 16 l)) (behind_zeros n rows front items e)
    ∙ ap (drop (20 * j)) (drop_at head (flat_map row_text rows) 16 size))
    ∙ one_row rows j d below

pub left_count : (rows : List Row) → length (drop 128 rows) ≡ length rows - 128
left_count rows = length-drop 128 rows

pub left_few : (rows : List Row) → length rows ≤ 1152 → length (drop 128 rows) ≤ 1024
left_few rows few = let left = length-drop 128 rows in omega (arith, left, few)

-- row i of all rows is row i - 128 of those that are left
pub row_left : (rows : List Row) (i : ℕ) (d : Row) → 128 ≤ i → get_or (drop 128 rows) (i - 128) d ≡ get_or rows i d
row_left rows i d past =
    let place : 128 + (i - 128) ≡ i = omega (arith, past) in
    get_or-drop 128 rows (i - 128) d ∙ ap (λ k. get_or rows k d) place

-- how long all is
pub segment_length : (header : List ℕ) (z : ZeroPage) (rows : List Row) (command items : List ℕ) → IsSegment header z rows command (extension (length command) (drop 128 rows)) items → length items ≡ params_length (length rows) (length command)
unfolding params_length
segment_length header z rows command items s = by_count (nat_lt 128 (length rows)) refl
  where
    long : length (page_text header z (take 128 rows)) ≡ 4096
    long = first_page header z rows s.short

    by_count : (b : Bool) → nat_lt 128 (length rows) ≡ b → length items ≡ cond b (record_place (length command) + 16 + 20 * (length rows - 128)) (nul_end (length command))
    by_count true t =
        let e = segment_extended header z rows command items s (grind (arith, nat_tests)) in
        let ends = e.ends in
        let more = drop 128 rows in
        let head = head_text (head_of (length more)) in
        let front = page_text header z (take 128 rows) ++ (command ++ 0 ∷ []) in
        ap length e.is
        ∙ omega (arith, ends, length-append front (zeros (gap (length command)) ++ (head ++ flat_map row_text more)), length-append (zeros (gap (length command))) (head ++ flat_map row_text more), length-append head (flat_map row_text more), length-zeros (gap (length command)), head_size (head_of (length more)), rows_size more, length-drop 128 rows)
    by_count false t =
        let few : length rows ≤ 128 = grind (arith, nat_tests) in
        let none = drop_all 128 rows few in
        let rest = ap (extension (length command)) none ∙ extension_without_rows (length command) in
        ap length s.is
        ∙ omega (arith, long, length-append (page_text header z (take 128 rows)) (command ++ 0 ∷ extension (length command) (drop 128 rows)), length-append command (0 ∷ extension (length command) (drop 128 rows)), ap (λ l. length (0 ∷ l)) rest)
