use Rattle.std.proofs.Common.{◌≡◌, ◌+◌, drop, length, arith, sym, ap, ◌∙◌, subst}
use Rattle.std.specs.List.{flat_map}
use Rattle.load_record.specs.declared.version.Version.TheVariants.{Second}
use Rattle.load_record.specs.File.{record_file, segment_text}
use Rattle.load_record.proofs.Room.{file_size, small_file, room_step}
use Rattle.load_record.proofs.body.room_of.Goals as goal

pub loop-i-init : goal.loop-i-init
loop-i-init c = file_size c.args.of.now

pub overflow_add-room-in-loop-i : goal.overflow_add-room-in-loop-i
overflow_add-room-in-loop-i c =
    let segments = c.args.of.now.segments in
    let s = c.behind-segments.inside in
    let len_is : s.bytes.len ≡ length s.bytes.items = omega (arith, s.bytes.ok.0) in
    let size : c.len.result ≡ length c.segment.result.now.bytes = c.len.ensures ∙ len_is ∙ ap (λ s. length s.bytes) c.behind-segments.view_is in
    let next = room_step c.loop-i.room _ segments c.loop-i.i c.segment.result.now c.segment.ensures c.loop-i.invariant in
    omega (arith, size, next, small_file c.args.of.now c.count-i-end.ensures.valid)

pub loop-i-preserved : goal.loop-i-preserved
loop-i-preserved c =
    let segments = c.args.of.now.segments in
    let s = c.behind-segments.inside in
    let len_is : s.bytes.len ≡ length s.bytes.items = omega (arith, s.bytes.ok.0) in
    let size : c.len.result ≡ length c.segment.result.now.bytes = c.len.ensures ∙ len_is ∙ ap (λ s. length s.bytes) c.behind-segments.view_is in
    let next = room_step c.loop-i.room _ segments c.loop-i.i c.segment.result.now c.segment.ensures c.loop-i.invariant in
    let behind = length (flat_map (segment_text Second) (drop (c.loop-i.i + 1) segments)) in
    subst (λ m. c.loop-i.room + (m + c.len.result) + behind ≡ length (record_file c.args.of.now)) (sym c.front_size.ensures)
    (subst (λ n. c.loop-i.room + (56 + n) + behind ≡ length (record_file c.args.of.now)) (sym size) next)
