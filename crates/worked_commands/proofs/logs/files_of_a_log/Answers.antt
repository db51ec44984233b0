-- By what is held, and then by computing.
use Rattle.std.proofs.Common.{◌≡◌, ◌∙◌, ℕ, List, [], ap, arith, refl, sym, take}
use Rattle.std.specs.Prelude.{codes, get_or, unwrap_or}
use Rattle.kx_edge.specs.Edge.{read_of}
use Rattle.worked_commands.specs.Answers.{long_file, one_file}
use Rattle.worked_commands.specs.Shelves.{holding}
use Rattle.worked_commands.proofs.Shelves.{got, look}
use Rattle.worked_commands.proofs.logs.files_of_a_log.Goals as goal

read : (fs : List (List ℕ × List ℕ)) → read_of (holding fs) (codes "a") 4 ≡ take 4 (unwrap_or (look fs (codes "a")) [])
read fs = ap (λ o. take 4 (unwrap_or o [])) (got fs (codes "a"))

pub returns-clause-agree : goal.returns-clause-agree
returns-clause-agree c = (sym (read one_file), tt)

first_byte : codes "xyz" ≡ codes "wxyz" → ⊥
first_byte e = let f : 120 ≡ 119 = ap (λ bytes. get_or bytes 0 0) e in omega (arith, f)

pub returns-clause-longer : goal.returns-clause-longer
returns-clause-longer c = λ h. first_byte (h.0 ∙ read long_file)

pub returns-clause-taken : goal.returns-clause-taken
returns-clause-taken c = refl

pub returns-clause-puts : goal.returns-clause-puts
returns-clause-puts c = refl

pub returns-clause-steady : goal.returns-clause-steady
returns-clause-steady c = (tt, tt)

pub returns-clause-taken_again : goal.returns-clause-taken_again
returns-clause-taken_again c = (((λ e. refl), tt), (tt, tt))

two_bytes : codes "xy" ≡ codes "xyz" → ⊥
two_bytes e = let f : 0 ≡ 122 = ap (λ bytes. get_or bytes 2 0) e in omega (arith, f)

pub returns-clause-changed : goal.returns-clause-changed
returns-clause-changed c = λ h. two_bytes (h.0.0 refl)

pub returns-clause-unrefused : goal.returns-clause-unrefused
returns-clause-unrefused c = tt

pub returns-clause-is_refused : goal.returns-clause-is_refused
returns-clause-is_refused c = λ h. h
