-- What is made where there is no fault.
use Rattle.std.proofs.Common.{◌≡◌, ℕ, ◌≤◌, List, ◌∷◌, ◌++◌, length, take, drop, Bool, true, false, cond, refl, sym, ap, ◌∙◌, Ok, Err, Option, Some, arith}
use Rattle.std.specs.Prelude.{nat_lt}
use Rattle.std.proofs.lemmas.Bool.Decides.{nat_tests}
use Rattle.kx_laws.specs.Results.{◌>>=◌, unless}
use Rattle.bzimage.specs.Kernel.{Kernel}
use Rattle.memory_map.specs.declared.row.Row.{Row}
use Rattle.boot_params.specs.declared.fault.ParamsFault.{ParamsFault}
use Rattle.boot_params.specs.ZeroPage.{page_text}
use Rattle.boot_params.specs.Numbers.{numbers_of}
use Rattle.boot_params.specs.SetupData.{extension}
use Rattle.boot_params.specs.Params.{params_fault, params_text, params}

pub fails : (kernel : Kernel) (rows : List Row) (command : List ℕ) (at : ℕ) (initrd : Option (ℕ × ℕ)) (e : ParamsFault) → unless (params_fault kernel rows command) ≡ Err e → params kernel rows command at initrd ≡ Err e
unfolding params
fails kernel rows command at initrd e h = ap (λ r. r >>= λ _. Ok (params_text kernel rows command at initrd)) h

few_from : (n : ℕ) (x : ParamsFault) (rest : Option ParamsFault) → unless (cond (nat_lt 1152 n) (Some x) rest) ≡ Ok tt → n ≤ 1152
few_from n x rest h = by_test (nat_lt 1152 n) refl h
  where
    by_test : (b : Bool) → nat_lt 1152 n ≡ b → unless (cond b (Some x) rest) ≡ Ok tt → n ≤ 1152
    by_test true e h = cc
    by_test false e h = grind (arith, nat_tests)

pub few : (kernel : Kernel) (rows : List Row) (command : List ℕ) → unless (params_fault kernel rows command) ≡ Ok tt → length rows ≤ 1152
unfolding params_fault
few kernel rows command h = few_from (length rows) _ _ h

pub makes : (kernel : Kernel) (rows : List Row) (command : List ℕ) (at : ℕ) (initrd : Option (ℕ × ℕ)) (items : List ℕ) → unless (params_fault kernel rows command) ≡ Ok tt → items ≡ page_text kernel.header (numbers_of (length rows) (length command) at initrd) (take 128 rows) ++ (command ++ 0 ∷ extension (length command) (drop 128 rows)) → params kernel rows command at initrd ≡ Ok items
unfolding params params_text
makes kernel rows command at initrd items h e =
    ap (λ r. r >>= λ _. Ok (params_text kernel rows command at initrd)) h ∙ ap Ok (sym e)
