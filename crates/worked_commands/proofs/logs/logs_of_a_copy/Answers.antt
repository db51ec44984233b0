-- By what was taken, made and put.
use Rattle.std.proofs.Common.{◌≡◌, ◌∙◌, ◌≤◌, ℕ, List, [], ◌∷◌, Some, None, Ok, Bool, true, false, cond, length, refl, sym, ap, arith, inl, inr}
use Rattle.std.specs.Prelude.{codes, nat_lt}
use Rattle.call_log.specs.Calls.{Call, put, said, taken, unput, wanting}
use Rattle.call_log.specs.Replays.{EndsUntaken, EndsWanting, Replays, puts_of}
use Rattle.file_commands.specs.Answers.{Goods}
use Rattle.file_commands.specs.Files.{whole_file}
use Rattle.file_commands.specs.Taking.{Take, ok, refuse, too_long}
use Rattle.worked_commands.specs.Answers.{copy_goods, copies}
use Rattle.worked_commands.specs.Logs.{a_taken, copy_calls}
use Rattle.worked_commands.proofs.logs.logs_of_a_copy.Goals as goal

abbrev took : Take ℕ (List ℕ)
took = whole_file 3 (codes "a")

-- the log of these bytes, and of what comes behind them
replays : (rest : List Call) → Replays took (a_taken (codes "xyz") ∷ rest) (Ok (codes "xyz")) rest
unfolding Replays
replays rest = (codes "xyz", rest, refl, (let p : 3 ≤ 4 = omega arith in p), (refl, refl))

abbrev puts : List Call
puts = put (codes "o") (codes "xyz") ∷ put (codes "r") (codes "12") ∷ []

pub returns-clause-done : goal.returns-clause-done
returns-clause-done c = (codes "xyz", copy_goods None (codes "xyz"), replays puts, refl, refl, refl)

no_rest : (c : Call) (cs : List Call) → ◌≡◌ {A = List Call} [] (c ∷ cs) → ⊥
no_rest c cs e = cc

-- behind the take something is put
rest_of : (b : Bool) (bytes : List ℕ) (more rest : List Call) (x : List ℕ) → Replays {R = ℕ} (cond b (refuse (too_long (codes "a") 3)) (ok bytes)) more (Ok x) rest → more ≡ rest
unfolding Replays
rest_of true bytes more rest x h = h.1
rest_of false bytes more rest x h = h.1

tail_same : (c d : Call) (cs ds : List Call) → c ∷ cs ≡ d ∷ ds → cs ≡ ds
tail_same c d cs ds e = cc

nothing_behind : (x : List ℕ) (rest : List Call) → Replays took (a_taken (codes "xyz") ∷ []) (Ok x) rest → [] ≡ rest
unfolding Replays
nothing_behind x rest (bytes, more, e, within, h) =
    tail_same (a_taken (codes "xyz")) (taken (codes "a") 4 bytes) [] more e ∙ rest_of (nat_lt 3 (length bytes)) bytes more rest x h

goods_are : (x : List ℕ) (goods : Goods ℕ) → copies None x (Ok goods) → goods ≡ copy_goods None x
goods_are [] goods m = absurd m
goods_are (b ∷ bs) goods m = m

pub returns-clause-no_put : goal.returns-clause-no_put
returns-clause-no_put c = λ (x, goods, h, m, fault, text).
    let g = goods_are x goods m in
    no_rest (put (codes "o") x) (put (codes "r") (codes "12") ∷ []) (nothing_behind x (puts_of goods.outputs) h ∙ ap (λ (g : Goods ℕ). puts_of g.outputs) g)

no_text : (c : Call) → ◌≡◌ {A = List Call} [] (c ∷ []) → ⊥
no_text c e = cc

pub returns-clause-not_said : goal.returns-clause-not_said
returns-clause-not_said c = λ (x, goods, h, m, fault, text). no_text (said goods.text) text

pub returns-clause-fault : goal.returns-clause-fault
returns-clause-fault c = (codes "xyz", copy_goods (Some 9) (codes "xyz"), replays puts, refl, refl, refl)

pub returns-clause-unread : goal.returns-clause-unread
unfolding EndsUntaken
returns-clause-unread c = (inl (refl, refl), refl)

pub returns-clause-unwritten : goal.returns-clause-unwritten
returns-clause-unwritten c = (
  codes "xyz",
  copy_goods None (codes "xyz"),
  put (codes "o") (codes "xyz") ∷ unput (codes "r") (codes "12") ∷ [],
  replays (put (codes "o") (codes "xyz") ∷ unput (codes "r") (codes "12") ∷ []),
  refl,
  inr (unput (codes "r") (codes "12") ∷ [], refl, inl (refl, refl)),
  refl,
)

pub returns-clause-unsaid : goal.returns-clause-unsaid
returns-clause-unsaid c = (codes "xyz", copy_goods None (codes "xyz"), replays puts, refl, refl)

pub returns-clause-refused : goal.returns-clause-refused
unfolding Replays
returns-clause-refused c = (inr ([], ([], [], refl, (let p : 0 ≤ 4 = omega arith in p), (refl, refl)), refl), refl)

pub returns-clause-too_long : goal.returns-clause-too_long
unfolding Replays
returns-clause-too_long c = (inl (codes "wxyz", [], refl, (let p : 4 ≤ 4 = omega arith in p), (refl, refl)), refl)

pub returns-clause-wanted : goal.returns-clause-wanted
unfolding EndsWanting
returns-clause-wanted c = (inr (inl refl), refl)

pub returns-clause-wanted_later : goal.returns-clause-wanted_later
unfolding EndsWanting
returns-clause-wanted_later c = (inr (inr (codes "xyz", [], refl, refl)), refl)

-- behind the take nothing comes
check_ends : (b : Bool) (bytes : List ℕ) (more : List Call) → EndsWanting {R = ℕ} (cond b (refuse (too_long (codes "a") 3)) (ok bytes)) more → more ≡ []
unfolding EndsWanting
check_ends true bytes more h = h
check_ends false bytes more h = h

other_call : (cs : List Call) → a_taken (codes "xyz") ∷ cs ≡ wanting (codes "a") ∷ [] → ⊥
other_call cs e = cc

not_put : EndsWanting took copy_calls → ⊥
unfolding EndsWanting
not_put (inl e) = no_rest (a_taken (codes "xyz")) puts (sym e)
not_put (inr (inl e)) = other_call puts e
not_put (inr (inr (bytes, more, e, h))) = no_rest (put (codes "o") (codes "xyz")) (put (codes "r") (codes "12") ∷ []) (sym (tail_same (a_taken (codes "xyz")) (taken (codes "a") 4 bytes) puts more e ∙ check_ends (nat_lt 3 (length bytes)) bytes more h))

pub returns-clause-wanted_and_put : goal.returns-clause-wanted_and_put
returns-clause-wanted_and_put c = λ h. not_put h.0
