-- The digests of a record's segments.
use Rattle.std.proofs.Common.{◌≡◌, ℕ, ◌+◌, List, [], ◌∷◌, ◌++◌, drop, refl, sym, ap, ◌∙◌, Option, Some, None, append_assoc, append-nil}
use Rattle.std.specs.Prelude.{option_map, IfSome}
use Rattle.std.specs.List.{slice_get}
use Rattle.std.specs.Option.{option_to_list}
use Rattle.std.proofs.lemmas.List.{map-append}
use Rattle.sha2.specs.Sha256.{sha256}
use Rattle.segments.specs.Values.{SegmentValue}
use Rattle.load_record.specs.declared.version.Version.{Version}
use Rattle.load_record.specs.declared.version.Version.TheVariants.{First, Second}
use Rattle.load_record.specs.inner.File.{made_digest, made_digests, digests_of}
use Rattle.kx_laws.proofs.Lists.{drop_at}

pub none_made : (v : Version) → [] ≡ made_digests v []
none_made First = refl
none_made Second = refl

-- one more was read
pub made_step : (v : Version) (ss : List SegmentValue) (s : SegmentValue) (digests : List (List ℕ)) → digests ≡ made_digests v ss → digests ++ option_to_list (made_digest v s.bytes) ≡ made_digests v (ss ++ s ∷ [])
made_step First ss s digests h = append-nil digests ∙ h
made_step Second ss s digests h = ap (λ l. l ++ sha256 s.bytes ∷ []) h ∙ sym (map-append (λ (s : SegmentValue). sha256 s.bytes) ss (s ∷ []))

-- the digests of all, if one was made of the first
pub made_all : {A : Type 0} (view : A → List (List ℕ)) (v : Version) (s : SegmentValue) (ss : List SegmentValue) (first : Option (List ℕ)) (others : List (List ℕ)) (all : Option A) → first ≡ made_digest v s.bytes → others ≡ made_digests v ss → option_map view all ≡ option_map (λ d. d ∷ others) first → IfSome all (λ d. view d ≡ digests_of (s ∷ ss))
made_all view v s ss first others None e f g = tt
made_all view First s ss first others (Some d) e f g = let none : Some (view d) ≡ None = g ∙ ap (option_map (λ d. d ∷ others)) e in absurd (cc)
made_all view Second s ss first others (Some d) e f g =
    let all : Some (view d) ≡ Some (sha256 s.bytes ∷ others) = g ∙ ap (option_map (λ d. d ∷ others)) e in
    let same : view d ≡ sha256 s.bytes ∷ others = cc in
    same ∙ ap (λ ds. sha256 s.bytes ∷ ds) f

-- one more was made
pub digest_step : (made new : List (List ℕ)) (digest : List ℕ) (all : List (List ℕ)) (xs : List SegmentValue) (i : ℕ) (s : SegmentValue) → slice_get xs i ≡ Some s → new ≡ made ++ digest ∷ [] → digest ≡ sha256 s.bytes → made ++ digests_of (drop i xs) ≡ all → new ++ digests_of (drop (i + 1) xs) ≡ all
digest_step made new digest all xs i s at_i e is h =
    ap (λ l. l ++ digests_of (drop (i + 1) xs)) (e ∙ ap (λ d. made ++ d ∷ []) is)
    ∙ append_assoc made (sha256 s.bytes ∷ []) (digests_of (drop (i + 1) xs))
    ∙ ap (λ ys. made ++ digests_of ys) (sym (drop_at xs i s at_i))
    ∙ h
