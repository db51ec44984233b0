use Rattle.std.proofs.Common.{◌≡◌, ℕ, List, sym, ap, ◌∙◌, arith, length, set}
use Rattle.std.specs.Prelude.{slice_get}
use Rattle.segments.specs.Values.{SegmentValue}
use Rattle.kx_laws.proofs.Options.{some_same}
use Rattle.segments.proofs.Alike.{Alike, has_pages_set}
use Rattle.segments.proofs.Steps.{got}
use Rattle.segments.proofs.list.Segments.replace.Goals as goal

replacement_is_alike : (s t : SegmentValue) (bytes : List ℕ) → s ≡ t → length bytes ≡ length s.bytes → Alike t (record { bytes = bytes; mem = s.mem; memsz = s.memsz })
replacement_is_alike s t bytes e l = record { mem = ap (λ x. x.mem) (sym e); memsz = ap (λ x. x.memsz) (sym e); long = ap (λ x. length x.bytes) (sym e) ∙ sym l }

pub copy_from_slice-requires : goal.copy_from_slice-requires
copy_from_slice-requires c =
    let at = got c.self.inside.list.items c.args.self.now c.args.i c.index_mut.result.now c.self.view_is c.requires.inside c.index_mut.ensures.value in
    let long : length c.behind-self.inside.bytes.items ≡ length c.args.bytes.now = ap (λ s. length s.bytes) c.behind-self.view_is ∙ sym (c.requires.same_length c.index_mut.result.now at) in
    omega (arith, long, c.behind-self.inside.bytes.ok.0)

pub invariant_of-self : goal.invariant_of-self
invariant_of-self c =
    let items = c.self.inside.list.items in
    let part = c.index_mut.result.now in
    let at = got items c.args.self.now c.args.i part c.self.view_is c.requires.inside c.index_mut.ensures.value in
    let long : length c.copy_from_slice.new.self.items ≡ length c.behind-self.inside.bytes.items = ap length c.copy_from_slice.ensures.items ∙ c.requires.same_length part at ∙ ap (λ s. length s.bytes) (sym c.behind-self.view_is) in
    has_pages_set _ _ _ _ c.self.invariant
    (λ s e. replacement_is_alike (record { bytes = c.behind-self.inside.bytes.items; mem = c.behind-self.inside.mem; memsz = c.behind-self.inside.memsz }) s c.copy_from_slice.new.self.items
    (c.behind-self.view_is ∙ some_same part s (sym at ∙ ap (λ xs. slice_get xs c.args.i) (sym c.self.view_is) ∙ e)) long)

-- the list with these bytes
replacement_in_list : (ss ts : List SegmentValue) (i : ℕ) (s t : SegmentValue) (xs ys : List ℕ) → ss ≡ ts → s ≡ t → xs ≡ ys → set ss i (record { bytes = xs; mem = s.mem; memsz = s.memsz }) ≡ set ts i (record { bytes = ys; mem = t.mem; memsz = t.memsz })
replacement_in_list ss ts i s t xs ys e f g = cc

pub returns : goal.returns
returns c s e =
    let at = got c.self.inside.list.items c.args.self.now c.args.i c.index_mut.result.now c.self.view_is c.requires.inside c.index_mut.ensures.value in
    let same = some_same s c.index_mut.result.now (sym e ∙ at) in
    replacement_in_list c.self.inside.list.items c.args.self.now c.args.i (record { bytes = c.behind-self.inside.bytes.items; mem = c.behind-self.inside.mem; memsz = c.behind-self.inside.memsz }) s c.copy_from_slice.new.self.items c.args.bytes.now c.self.view_is (c.behind-self.view_is ∙ sym same) c.copy_from_slice.ensures.items
