-- Outputs that are put one after the other.
use Rattle.std.proofs.Common.{◌≡◌, ℕ, List, [], ◌∷◌, Option, Some, None, option_map, take, sym, ap, ◌∙◌, refl, subst, inl, inr}
use Rattle.std.specs.FinMap.{insert}
use Rattle.kx_edge.specs.Edge.{Files, Rose, PutFile, PutPrefix}
use Rattle.kx_edge.specs.declared.edge.Shelf.{Ghosts as Shelf}
use Rattle.file_commands.specs.Taking.{File}
use Rattle.file_commands.specs.Answers.{with_outputs, FilesPut, FilesCut, FilesUpTo, PutsFile, PutAll, PutUpTo}

same_some : (a b : Files) → ◌≡◌ {A = Option Files} (Some a) (Some b) → a ≡ b
same_some a b e = cc

put_none : (files : Option Files) → FilesPut files [] files
put_none None = refl
put_none (Some held) = refl

put_more : (a b c : Option Files) (o : File) (os : List File) → PutFile a o.0 o.1 b → FilesPut b os c → FilesPut a (o ∷ os) c
put_more None b c o os p q = q ∙ ap (option_map (λ held. with_outputs held os)) p
put_more (Some held) b c o os p q = q ∙ ap (option_map (λ held. with_outputs held os)) p

cut_more : (a b c : Option Files) (o : File) (os : List File) (name : List ℕ) → PutFile a o.0 o.1 b → FilesCut b os name c → FilesCut a (o ∷ os) name c
cut_more a b c o os name p (before, bytes, after, order, upto) = (o ∷ before, bytes, after, ap (λ xs. o ∷ xs) order, up c upto)
  where
    up : (c : Option Files) → FilesUpTo b before name bytes c → FilesUpTo a (o ∷ before) name bytes c
    up None q = tt
    up (Some now) q = from a p
      where
        from : (a : Option Files) → PutFile a o.0 o.1 b → FilesUpTo a (o ∷ before) name bytes (Some now)
        from None p = absurd (let e = sym p ∙ q.3 in cc)
        from (Some held) p =
            let same : insert held o.0 o.1 ≡ q.0 = same_some (insert held o.0 o.1) q.0 (sym p ∙ q.3) in
            (held, q.1, q.2, refl, q.4 ∙ ap (λ m. insert (with_outputs m before) name (take q.1 bytes)) (sym same))

cut_here : (a c : Option Files) (o : File) (os : List File) → PutPrefix a o.0 o.1 c → FilesCut a (o ∷ os) o.0 c
cut_here a None o os p = ([], o.1, os, refl, tt)
cut_here a (Some now) o os p = ([], o.1, os, refl, (p.0, p.1, p.2, p.3, p.4))

module _ {S : Type 0} (D : Shelf S) where
  -- what holds of the outputs that are left holds of all
  pub record Between (s now : S) (rest all : List File) : Type 0 where
    pub whole : (t : S) → PutAll D rest now t → PutAll D all s t
    pub cut : (name : List ℕ) (t : S) → PutUpTo D rest now name t → PutUpTo D all s name t

  pub at_start : (s : S) (all : List File) → Between s s all all
  at_start s all = record { whole = λ t p. p; cut = λ name t p. p }

  pub after_put : {s now : S} {o : File} {rest all : List File} (next : S) → Between s now (o ∷ rest) all → PutsFile D now o next → Between s next rest all
  after_put next b p = record { whole = λ t q. b.whole t (next, p, q); cut = λ name t q. b.cut name t (inr (next, p, q)) }

  -- what is seen of puts
  pub puts_files : (os : List File) (s t : S) → PutAll D os s t → FilesPut (D.files s) os (D.files t)
  puts_files [] s t e = subst (λ u. FilesPut (D.files s) [] (D.files u)) (sym e) (put_none (D.files s))
  puts_files (o ∷ os) s t (mid, p, q) = put_more (D.files s) (D.files mid) (D.files t) o os p.file (puts_files os mid t q)

  pub puts_calm : (os : List File) (s t : S) → PutAll D os s t → D.faults t ≡ D.faults s
  puts_calm [] s t e = ap D.faults e
  puts_calm (o ∷ os) s t (mid, p, q) = puts_calm os mid t q ∙ p.calm

  pub torn_files : (os : List File) (s t : S) (name : List ℕ) → PutUpTo D os s name t → FilesCut (D.files s) os name (D.files t)
  torn_files [] s t name h = absurd h
  torn_files (o ∷ os) s t name (inl h) = subst (λ n. FilesCut (D.files s) (o ∷ os) n (D.files t)) (sym h.0) (cut_here (D.files s) (D.files t) o os h.1.file)
  torn_files (o ∷ os) s t name (inr h) = cut_more (D.files s) (D.files h.0) (D.files t) o os name h.1.file (torn_files os h.0 t name h.2)

  pub torn_rose : (os : List File) (s t : S) (name : List ℕ) → PutUpTo D os s name t → Rose (D.faults s) (D.faults t)
  torn_rose [] s t name h = absurd h
  torn_rose (o ∷ os) s t name (inl h) = h.1.rose
  torn_rose (o ∷ os) s t name (inr h) = subst (λ n. Rose n (D.faults t)) h.1.calm (torn_rose os h.0 t name h.2)
