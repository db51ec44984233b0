use Rattle.std.proofs.Common.{◌≡◌, ◌+◌, ◌++◌, false, length, take, sym, ap, ◌∙◌, arith}
use Rattle.std.specs.Prelude.{◌==◌, replicate}
use Rattle.std.proofs.lemmas.Bool.{eq-eqb, eqb-true, false_from_ne_true}
use Rattle.elf_image.specs.Numbers.{sht_nobits}
use Rattle.purgatory_link.specs.Layout.{padding}
use Rattle.purgatory_link.proofs.Laying.{laid_none, ends_none, growth_is_zeros, padding_is_zeros, laid_zeros, laid_bytes, ends_some}
use Rattle.purgatory_link.proofs.layout.put_section.Goals as goal

pub returns-then-not-is_loaded-clause-bytes : goal.returns-then-not-is_loaded-clause-bytes
returns-then-not-is_loaded-clause-bytes c =
    laid_none c.args.file.now c.args.out.now.items c.args.section.now (sym c.is_loaded.ensures ∙ c.if-not-is_loaded.true)

pub returns-then-not-is_loaded-clause-end : goal.returns-then-not-is_loaded-clause-end
returns-then-not-is_loaded-clause-end c =
    ends_none (length c.args.out.now.items) c.args.section.now (sym c.is_loaded.ensures ∙ c.if-not-is_loaded.true)

pub returns-then-section-eq-SHT_NOBITS-clause-bytes : goal.returns-then-section-eq-SHT_NOBITS-clause-bytes
returns-then-section-eq-SHT_NOBITS-clause-bytes c =
    let s = c.args.section.now in
    let out = c.args.out.now.items in
    let wide = c.args.out.now.ok.0 in
    let first : c.resize.new.self.items ≡ out ++ replicate (padding s (length out)) 0 =
    padding_is_zeros s c.len.result c.len-2.result c.args.out.now.len c.padding.result out c.resize.new.self.items (c.len.ensures ∙ wide) (c.len-2.ensures ∙ wide) wide c.padding.ensures c.in_ok-resize.ensures.items in
    laid_zeros c.args.file.now out _ s (sym c.is_loaded.ensures ∙ c.if-not-is_loaded.false) (eq-eqb s.kind sht_nobits c.if-section-eq-SHT_NOBITS.true)
    (growth_is_zeros (c.len.result + c.padding.result + s.size) c.resize.new.self.len s.size c.resize.new.self.items _ c.resize.new.self.ok.0 (omega (arith, c.in_ok-resize.ensures.len)) c.in_ok-resize-2.ensures.items
    ∙ ap (λ l. l ++ replicate s.size 0) first)

pub returns-then-section-eq-SHT_NOBITS-clause-end : goal.returns-then-section-eq-SHT_NOBITS-clause-end
returns-then-section-eq-SHT_NOBITS-clause-end c =
    let s = c.args.section.now in
    let n = length c.args.out.now.items in
    let wide = c.args.out.now.ok.0 in
    let pad : c.padding.result ≡ padding s n = c.padding.ensures ∙ ap (padding s) (c.len-2.ensures ∙ wide) in
    ends_some n _ s (sym c.is_loaded.ensures ∙ c.if-not-is_loaded.false)
    (omega (arith, wide, pad, c.len.ensures, c.in_ok-resize-2.ensures.len, c.resize-then-section-eq-SHT_NOBITS.new.self.ok.0))

pub returns-clause-bytes : goal.returns-clause-bytes
returns-clause-bytes c =
    let s = c.args.section.now in
    let out = c.args.out.now.items in
    let wide = c.args.out.now.ok.0 in
    let first : c.resize.new.self.items ≡ out ++ replicate (padding s (length out)) 0 =
    padding_is_zeros s c.len.result c.len-2.result c.args.out.now.len c.padding.result out c.resize.new.self.items (c.len.ensures ∙ wide) (c.len-2.ensures ∙ wide) wide c.padding.ensures c.in_ok-resize.ensures.items in
    let other : (s.kind == sht_nobits) ≡ false = false_from_ne_true (s.kind == sht_nobits) (λ e. c.if-section-eq-SHT_NOBITS.false (eqb-true s.kind sht_nobits e)) in
    laid_bytes c.args.file.now out _ c.split_at-2.result.0.now s (sym c.is_loaded.ensures ∙ c.if-not-is_loaded.false) other
    (c.in_ok-extend_from_slice.ensures.items ∙ ap (λ l. l ++ c.split_at-2.result.0.now) first)
    (c.split_at-2.ensures.front ∙ ap (take s.size) c.split_at.ensures.back)

pub returns-clause-end : goal.returns-clause-end
returns-clause-end c =
    let s = c.args.section.now in
    let n = length c.args.out.now.items in
    let wide = c.args.out.now.ok.0 in
    let pad : c.padding.result ≡ padding s n = c.padding.ensures ∙ ap (padding s) (c.len-2.ensures ∙ wide) in
    ends_some n _ s (sym c.is_loaded.ensures ∙ c.if-not-is_loaded.false)
    (omega (arith, wide, pad, c.len.ensures, c.in_ok-resize.ensures.len, c.in_ok-extend_from_slice.ensures.len, c.split_at-2.ensures.front_len, c.extend_from_slice.new.self.ok.0))
