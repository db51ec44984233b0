-- The line of one more segment.
use Rattle.std.proofs.Common.{◌≡◌, ℕ, ◌+◌, List, ◌∷◌, ◌++◌, drop, sym, ap, ◌∙◌, Some, append_assoc}
use Rattle.std.specs.List.{flat_map, slice_get}
use Rattle.std.proofs.lemmas.List.{drop_more}
use Rattle.std.proofs.lemmas.Option.{slice_get_within, get_or_from_slice_get}
use Rattle.segments.specs.Values.{SegmentValue}
use Rattle.list_commands.specs.Dump.{segment_line}

drop_at : (xs : List SegmentValue) (i : ℕ) (s : SegmentValue) → slice_get xs i ≡ Some s → drop i xs ≡ s ∷ drop (i + 1) xs
drop_at xs i s e = drop_more xs i s (slice_get_within xs i s e) ∙ ap (λ x. x ∷ drop (i + 1) xs) (get_or_from_slice_get xs i s s e)

pub segment_step : (old new line all : List ℕ) (xs : List SegmentValue) (i : ℕ) (s : SegmentValue) → slice_get xs i ≡ Some s → new ≡ old ++ line → line ≡ segment_line s
    → old ++ flat_map segment_line (drop i xs) ≡ all → new ++ flat_map segment_line (drop (i + 1) xs) ≡ all
segment_step old new line all xs i s at_i e f h =
    ap (λ l. l ++ flat_map segment_line (drop (i + 1) xs)) (e ∙ ap (λ l. old ++ l) f)
    ∙ append_assoc old (segment_line s) (flat_map segment_line (drop (i + 1) xs))
    ∙ ap (λ ys. old ++ flat_map segment_line ys) (sym (drop_at xs i s at_i))
    ∙ h
