-- The rows of a map that was read: each ends below the limit of addresses and is of kind 1 to 4.
use Rattle.std.proofs.Common.{◌≡◌, ℕ, ◌+◌, ◌≤◌, ◌++◌, List, [], ◌∷◌, drop, Bool, true, false, cond, Option, Some, None, Ok, Err, subst, arith}
use Rattle.std.specs.Prelude.{codes, nat_eq, nat_lt, not, ◌==◌, ◌&&◌}
use Rattle.std.specs.List.{starts_with}
use Rattle.std.specs.Str.{bytes_eq}
use Rattle.kx_laws.proofs.Results.{bind_ok, guard_ok, ok_same}
use Rattle.kx_pages.proofs.Lists.{Each-append}
use Rattle.text_lines.specs.Lines.{cut, lines, number}
use Rattle.memory_map.specs.Maps.{MapValue, nothing, ram_pages}
use Rattle.memory_map.specs.Rows.{is_ram_row}
use Rattle.memory_map.specs.Text.{below_limit, check_entry, checked_entry, entry_from, entry_of, entry_to, entry_with_name, without_spaces, class_of, class_onto, if_ram, line_onto, lines_onto, map_reading, meets_ram, row_onto}
use Rattle.memory_map.specs.declared.fault.MapFault.{MapFault}
use Rattle.memory_map.specs.declared.fault.MapFault.TheVariants as faults
use Rattle.memory_map.specs.declared.row.Class.{Class}
use Rattle.memory_map.specs.declared.row.Class.TheVariants as classes
use Rattle.memory_map.specs.declared.row.Row.{Row}
use Rattle.memory_map.specs.inner.Rows.{AreListed, IsListed}

-- what a name gives is of kind 4 at most
abbrev IsSmall : Class → Type 0
IsSmall (classes.Listed kind) = kind ≤ 4
IsSmall classes.CrashArea = Unit {0}
IsSmall classes.Other = Unit {0}

abbrev OnEntry : Option (ℕ × ℕ × Class) → Type 0
OnEntry None = Unit {0}
OnEntry (Some e) = IsSmall e.2

either : (b : Bool) (x y : Class) → IsSmall x → IsSmall y → IsSmall (cond b x y)
either true x y h k = h
either false x y h k = k

class_small : (name : List ℕ) → IsSmall (class_of name)
unfolding class_of
class_small name =
    either (bytes_eq name (codes "System RAM")) _ _ (omega arith)
    (either (bytes_eq name (codes "Reserved")) _ _ (omega arith)
    (either (bytes_eq name (codes "reserved")) _ _ (omega arith)
    (either (bytes_eq name (codes "ACPI Tables")) _ _ (omega arith)
    (either (bytes_eq name (codes "ACPI Non-volatile Storage")) _ _ (omega arith)
    (either (bytes_eq name (codes "Crash kernel")) classes.CrashArea classes.Other tt tt)))))

limited : (first last kind : ℕ) → kind ≤ 4 → IsListed (below_limit first last kind)
limited first last kind h = record { end = omega arith; kind = h }

row_listed : (n : ℕ) (m out : MapValue) (r : Row) → AreListed m.rows → IsListed r → row_onto n m r ≡ Ok out → AreListed out.rows
row_listed n m out r h k e = by (r.size == 0) e
  where
    by : (b : Bool) → cond b (Ok m) (cond (is_ram_row r && meets_ram r m.rows) (Err (faults.RamOverlaps n)) (Ok (record { rows = m.rows ++ r ∷ []; areas = m.areas }))) ≡ Ok out → AreListed out.rows
    by true e = subst (λ (m : MapValue). AreListed m.rows) (ok_same {F = MapFault} m out e) h
    by false e =
        let a = guard_ok (is_ram_row r && meets_ram r m.rows) _ _ out e in
        subst (λ (m : MapValue). AreListed m.rows) (ok_same {F = MapFault} _ out a.1) (Each-append IsListed m.rows (r ∷ []) h (k, tt))

class_listed : (n : ℕ) (m out : MapValue) (c : Class) (first last : ℕ) → AreListed m.rows → IsSmall c → class_onto n m c first last ≡ Ok out → AreListed out.rows
class_listed n m out classes.Other first last h k e = subst (λ (m : MapValue). AreListed m.rows) (ok_same {F = MapFault} m out e) h
class_listed n m out classes.CrashArea first last h k e = subst (λ (m : MapValue). AreListed m.rows) (ok_same {F = MapFault} _ out e) h
class_listed n m out (classes.Listed kind) first last h k e = row_listed n m out (below_limit first last kind) h (limited first last kind k) e

-- the class of an entry that a line is
entry_small : (n : ℕ) (o : Option (ℕ × ℕ × Class)) (x : ℕ × ℕ × Class) → OnEntry o → check_entry n o ≡ Ok x → IsSmall x.2
entry_small n None x h e = cc
entry_small n (Some y) x h e =
    let a = guard_ok (nat_lt y.1 y.0) _ _ x e in
    subst (λ (x : ℕ × ℕ × Class). IsSmall x.2) (ok_same {F = MapFault} y x a.1) h

named : (first last : Option ℕ) (name : List ℕ) → OnEntry (entry_with_name first last name)
named None last name = tt
named (Some first) None name = tt
named (Some first) (Some last) name = class_small name

to_last : (first : Option ℕ) (o : Option (List ℕ × List ℕ)) → OnEntry (entry_to first o)
to_last first None = tt
to_last first (Some p) = by (not (starts_with nat_eq p.1 (codes ": ")))
  where
    by : (b : Bool) → OnEntry (cond b None (entry_with_name first (number p.0) (drop 2 p.1)))
    by true = tt
    by false = named first (number p.0) (drop 2 p.1)

of_line : (o : Option (List ℕ × List ℕ)) → OnEntry (entry_from o)
of_line None = tt
of_line (Some p) = to_last (number p.0) (cut 32 p.1)

checked_small : (n : ℕ) (line : List ℕ) (x : ℕ × ℕ × Class) → checked_entry n line ≡ Ok x → IsSmall x.2
unfolding checked_entry entry_of
checked_small n line x e = entry_small n (entry_from (cut 45 (without_spaces line))) x (of_line (cut 45 (without_spaces line))) e

line_listed : (n : ℕ) (m out : MapValue) (line : List ℕ) → AreListed m.rows → line_onto n m line ≡ Ok out → AreListed out.rows
unfolding line_onto
line_listed n m out line h e =
    let a = bind_ok (checked_entry n line) (λ e. class_onto n m e.2 e.0 e.1) out e in
    class_listed n m out a.0.2 a.0.0 a.0.1 h (checked_small n line a.0 a.1) a.2

lines_listed : (n : ℕ) (m out : MapValue) (ls : List (List ℕ)) → AreListed m.rows → lines_onto n m ls ≡ Ok out → AreListed out.rows
unfolding lines_onto
lines_listed n m out [] h e = subst (λ (m : MapValue). AreListed m.rows) (ok_same {F = MapFault} m out e) h
lines_listed n m out (line ∷ ls) h e =
    let a = bind_ok (line_onto n m line) (λ more. lines_onto (n + 1) more ls) out e in
    lines_listed (n + 1) a.0 out ls (line_listed n m a.0 line h a.1) a.2

pub rows_listed : (text : List ℕ) (m : MapValue) → map_reading text ≡ Ok m → AreListed m.rows
unfolding map_reading
rows_listed text m e =
    let a = bind_ok (lines_onto 1 nothing (lines text)) if_ram m e in
    let b = guard_ok (ram_pages a.0 == 0) _ _ m a.2 in
    subst (λ (m : MapValue). AreListed m.rows) (ok_same {F = MapFault} a.0 m b.1) (lines_listed 1 nothing a.0 (lines text) tt a.1)
