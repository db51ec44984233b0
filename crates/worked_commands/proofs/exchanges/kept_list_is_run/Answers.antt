-- By the one list, and by what the exchanges leave.
use Rattle.std.proofs.Common.{◌≡◌, ◌∙◌, ℕ, List, [], ◌∷◌, length, Option, Some, None, true, false, Err, refl, sym, ap, subst, inl, inr}
use Rattle.std.specs.Prelude.{codes}
use Rattle.std.specs.Fmt.{digits}
use Rattle.page_memory.specs.File.{text_of}
use Rattle.list_checker.specs.Walk.{links, pairs}
use Rattle.list_checker.specs.declared.fault.ListFault.{ListFault}
use Rattle.load_states.specs.Ready.{Told}
use Rattle.file_commands.specs.Taking.{File, by}
use Rattle.kexec_words.specs.declared.commands.Runs.TheVariants.{Once, Twice}
use Rattle.list_commands.specs.Exec.{RunsFiles, executes_as, load_of}
use Rattle.list_commands.specs.Records.{list_files, load_by}
use Rattle.command_parts.specs.Outputs.{IsFileOf, IsMemoryFile, IsTooHeavy, Made}
use Rattle.command_parts.specs.Runs.{after_runs, checked_with, run_text}
use Rattle.load_states.specs.States.{Checked}
use Rattle.command_parts.specs.declared.reason.Reason.TheVariants as reasons
use Rattle.command_parts.proofs.Outputs.{has_file}
use Rattle.worked_commands.specs.Execs.{exec_makes}
use Rattle.worked_commands.specs.Kept.{exchange_memory, exchange_record, once_goods, once_pages, one_exchange, twice_goods, twice_pages}
use Rattle.worked_commands.proofs.Exchange.{accepted, once_is, only_list, twice_is}
use Rattle.worked_commands.proofs.Memories.{one_file}
use Rattle.worked_commands.proofs.exchanges.kept_list_is_run.Goals as goal

told : Told (load_of (list_files exchange_memory exchange_record)) 4 1 ((2, 0x13) ∷ [])
told = record { items = one_exchange; accepted = accepted; count = refl; link_pages = refl; same_pairs = refl }

told_is : (words ls : ℕ) (qs : List (ℕ × ℕ)) → Told (load_of (list_files exchange_memory exchange_record)) words ls qs → (words ≡ 4) × (ls ≡ 1) × (qs ≡ (2, 0x13) ∷ [])
told_is words ls qs t =
    let i = only_list t.items t.accepted in
    (sym t.count ∙ ap length i, sym t.link_pages ∙ ap (λ is. length (links is)) i, sym t.same_pairs ∙ ap pairs i)

once_text : (words ls : ℕ) (qs : List (ℕ × ℕ)) → Told (load_of (list_files exchange_memory exchange_record)) words ls qs → run_text (Some Once) (checked_with (load_of (list_files exchange_memory exchange_record)) words ls qs) (list_files exchange_memory exchange_record).startup ≡ once_goods.text
unfolding digits
once_text words ls qs t = let k = told_is words ls qs t in λ j. run_text (Some Once) (checked_with (load_of (list_files exchange_memory exchange_record)) (k.0 j) (k.1 j) (k.2 j)) (list_files exchange_memory exchange_record).startup

once_output : (words ls : ℕ) (qs : List (ℕ × ℕ)) (outputs : List File) → Told (load_of (list_files exchange_memory exchange_record)) words ls qs → IsMemoryFile outputs (codes "x") (after_runs (Some Once) (checked_with (load_of (list_files exchange_memory exchange_record)) words ls qs)) → outputs ≡ once_goods.outputs
once_output words ls qs outputs t (bytes, e, file) =
    let k = told_is words ls qs t in
    let here : IsFileOf (after_runs (Some Once) (checked_with (load_of (list_files exchange_memory exchange_record)) 4 1 ((2, 0x13) ∷ []))) bytes = subst (λ qs. IsFileOf (after_runs (Some Once) (checked_with (load_of (list_files exchange_memory exchange_record)) 4 1 qs)) bytes) k.2 file in
    e ∙ ap (λ bytes. (codes "x", bytes) ∷ []) (one_file (after_runs (Some Once) (checked_with (load_of (list_files exchange_memory exchange_record)) 4 1 ((2, 0x13) ∷ []))) bytes (text_of once_pages) here once_is)

once_alone : (goods : Made) (f : Option ListFault) → goods.fault ≡ f → executes_as (list_files exchange_memory exchange_record) false (codes "x") goods f → goods ≡ once_goods
once_alone goods None e (words, ls, qs, t, text, fault, output) =
    let is = text ∙ once_text words ls qs t in
    let out = once_output words ls qs goods.outputs t output in
    λ j. record { outputs = out j; text = is j; fault = e j }
once_alone goods (Some f) e h = absurd (h.0.1 one_exchange accepted)

once_runs : RunsFiles (list_files exchange_memory exchange_record) false (codes "x") once_goods
unfolding digits
once_runs = (4, 1, (2, 0x13) ∷ [], told, refl, refl, (text_of once_pages, refl, once_is))

twice_text : (words ls : ℕ) (qs : List (ℕ × ℕ)) → Told (load_of (list_files exchange_memory exchange_record)) words ls qs → run_text (Some Twice) (checked_with (load_of (list_files exchange_memory exchange_record)) words ls qs) (list_files exchange_memory exchange_record).startup ≡ twice_goods.text
unfolding digits
twice_text words ls qs t = let k = told_is words ls qs t in λ j. run_text (Some Twice) (checked_with (load_of (list_files exchange_memory exchange_record)) (k.0 j) (k.1 j) (k.2 j)) (list_files exchange_memory exchange_record).startup

twice_output : (words ls : ℕ) (qs : List (ℕ × ℕ)) (outputs : List File) → Told (load_of (list_files exchange_memory exchange_record)) words ls qs → IsMemoryFile outputs (codes "x") (after_runs (Some Twice) (checked_with (load_of (list_files exchange_memory exchange_record)) words ls qs)) → outputs ≡ twice_goods.outputs
twice_output words ls qs outputs t (bytes, e, file) =
    let k = told_is words ls qs t in
    let here : IsFileOf (after_runs (Some Twice) (checked_with (load_of (list_files exchange_memory exchange_record)) 4 1 ((2, 0x13) ∷ []))) bytes = subst (λ qs. IsFileOf (after_runs (Some Twice) (checked_with (load_of (list_files exchange_memory exchange_record)) 4 1 qs)) bytes) k.2 file in
    e ∙ ap (λ bytes. (codes "x", bytes) ∷ []) (one_file (after_runs (Some Twice) (checked_with (load_of (list_files exchange_memory exchange_record)) 4 1 ((2, 0x13) ∷ []))) bytes (text_of twice_pages) here twice_is)

twice_alone : (goods : Made) (f : Option ListFault) → goods.fault ≡ f → executes_as (list_files exchange_memory exchange_record) true (codes "x") goods f → goods ≡ twice_goods
twice_alone goods None e (words, ls, qs, t, text, fault, output) =
    let is = text ∙ twice_text words ls qs t in
    let out = twice_output words ls qs goods.outputs t output in
    λ j. record { outputs = out j; text = is j; fault = e j }
twice_alone goods (Some f) e h = absurd (h.0.1 one_exchange accepted)

twice_runs : RunsFiles (list_files exchange_memory exchange_record) true (codes "x") twice_goods
unfolding digits
twice_runs = (4, 1, (2, 0x13) ∷ [], told, refl, refl, (text_of twice_pages, refl, twice_is))

kept : exec_makes true (load_by exchange_memory exchange_record) (Err (by reasons.NotKept)) → ⊥
kept (inl (e, f)) = let g : false ≡ true = f in cc
kept (inr (e, h)) = h.4

-- two runs of what is told of the list leave the one memory
light : (c : Checked) (n : ℕ) → c.load ≡ load_of (list_files exchange_memory exchange_record) → Told c.load c.words c.links c.pairs → IsTooHeavy (after_runs (Some Twice) c) n → ⊥
light c n e t h =
    let k = told_is c.words c.links c.pairs (subst (λ s. Told s c.words c.links c.pairs) e t) in
    let same : after_runs (Some Twice) c ≡ after_runs (Some Twice) (checked_with (load_of (list_files exchange_memory exchange_record)) 4 1 ((2, 0x13) ∷ [])) = λ i. after_runs (Some Twice) (checked_with (e i) (k.0 i) (k.1 i) (k.2 i)) in
    has_file (after_runs (Some Twice) (checked_with (load_of (list_files exchange_memory exchange_record)) 4 1 ((2, 0x13) ∷ []))) (text_of twice_pages) n twice_is (subst (λ N. IsTooHeavy N n) same h)

pub returns-clause-once : goal.returns-clause-once
returns-clause-once c = (refl, once_runs)

pub returns-clause-twice : goal.returns-clause-twice
returns-clause-twice c = (refl, twice_runs)

pub returns-clause-nothing_else_once : goal.returns-clause-nothing_else_once
returns-clause-nothing_else_once c = λ goods h. once_alone goods goods.fault refl h.1

pub returns-clause-nothing_else_twice : goal.returns-clause-nothing_else_twice
returns-clause-nothing_else_twice c = λ goods h. twice_alone goods goods.fault refl h.1

pub returns-clause-kept : goal.returns-clause-kept
returns-clause-kept c = kept

pub returns-clause-can : goal.returns-clause-can
returns-clause-can c = record { items = one_exchange; accepted = accepted; kept = refl; light = light }
