-- The copies of the examples: what they read, make and leave.
use Rattle.std.proofs.Common.{◌≡◌, ◌∙◌, ℕ, List, [], ◌∷◌, Option, Some, Ok, Err, sym, ap, subst}
use Rattle.std.specs.Prelude.{codes}
use Rattle.kx_laws.proofs.Options.{some_same}
use Rattle.kx_laws.proofs.Results.{ok_same}
use Rattle.kx_edge.specs.Edge.{Said}
use Rattle.file_commands.specs.Answers.{FilesPut, Goods}
use Rattle.file_commands.specs.Files.{whole_file}
use Rattle.file_commands.specs.Taking.{Refusal, reads}
use Rattle.worked_commands.specs.Shelves.{holding}
use Rattle.worked_commands.specs.Answers.{copy_goods, copies, one_file}
use Rattle.worked_commands.proofs.Reading.{read_by}

pub read_here : reads (whole_file {R = ℕ} 3 (codes "a")) (holding one_file) ≡ Ok (codes "xyz")
read_here = read_by one_file (whole_file {R = ℕ} 3 (codes "a"))

-- what was read is the file, and nothing refuses it
pub x_is : (x : List ℕ) → reads (whole_file {R = ℕ} 3 (codes "a")) (holding one_file) ≡ Ok x → x ≡ codes "xyz"
x_is x read = ok_same {F = Refusal ℕ} x (codes "xyz") (sym read ∙ read_here)

pub made : (fault : Option ℕ) (x : List ℕ) (goods : Goods ℕ) → x ≡ codes "xyz" → copies fault x (Ok goods) → goods ≡ copy_goods fault (codes "xyz")
made fault [] goods e m = absurd m
made fault (b ∷ bs) goods e m = m ∙ ap (copy_goods fault) e

pub not_refused : (fault : Option ℕ) (x : List ℕ) (why : Refusal ℕ) → x ≡ codes "xyz" → copies fault x (Err why) → ⊥
not_refused fault [] why e m = let f : ◌≡◌ {A = List ℕ} [] (codes "xyz") = e in cc
not_refused fault (b ∷ bs) why e m = m

-- the outputs were put
pub put : (fault : Option ℕ) (fs : List (List ℕ × List ℕ)) (goods : Goods ℕ) → goods ≡ copy_goods fault (codes "xyz") → FilesPut (Some (holding one_file)) goods.outputs (Some (holding fs))
    → holding fs ≡ holding ((codes "r", codes "12") ∷ (codes "o", codes "xyz") ∷ one_file)
put fault fs goods e p =
    let k = subst (λ (g : Goods ℕ). FilesPut (Some (holding one_file)) g.outputs (Some (holding fs))) e p in
    some_same (holding fs) (holding ((codes "r", codes "12") ∷ (codes "o", codes "xyz") ∷ one_file)) k

-- the text was said
pub told : (fault : Option ℕ) (after : List ℕ) (goods : Goods ℕ) → goods ≡ copy_goods fault (codes "xyz") → Said (Some (codes "!")) goods.text (Some after) → after ≡ codes "!ok\n"
told fault after goods e p =
    let k = subst (λ (g : Goods ℕ). Said (Some (codes "!")) g.text (Some after)) e p in
    some_same after (codes "!ok\n") k
