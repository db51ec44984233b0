-- By the one load.
use Rattle.std.proofs.Common.{◌≡◌, ◌∙◌, [], ◌∷◌, Ok, Err, refl, sym, ap, arith, inl, inr}
use Rattle.std.specs.Prelude.{codes}
use Rattle.load_record.specs.File.{record_file, record_text, segment_text}
use Rattle.load_record.specs.Head.{head_text}
use Rattle.kx_fields.specs.Fields.{field, with_field, zeros}
use Rattle.sha2.specs.Sha256.{compress, digest_bytes, first_words, hash_after, rounds, schedule, sha256}
use Rattle.file_commands.specs.Taking.{by}
use Rattle.load_commands.specs.Load.{record_of_load}
use Rattle.command_parts.specs.Outputs.{Made, IsReadBack}
use Rattle.command_parts.specs.declared.reason.Reason.TheVariants as reasons
use Rattle.worked_commands.specs.Inputs.{three_bytes_file}
use Rattle.worked_commands.specs.Loads.{few_plan, load_goods, load_makes, load_text}
use Rattle.worked_commands.specs.Memories.{loaded_file}
use Rattle.worked_commands.proofs.Loads.{plan_is, pool}
use Rattle.worked_commands.proofs.Memories.{loaded_is}
use Rattle.worked_commands.proofs.LoadWitness.{checked1, load1, loaded1, sealed, told1}
use Rattle.load_record.specs.File.{read_head, read_segments, record_reading, segment_at, tested_head, tested_segments}
use Rattle.load_record.specs.Head.{head_fault}
use Rattle.segments.specs.Rules.{bare_refusal, shape_refusal}
use Rattle.worked_commands.proofs.OneLoad.{load_leaves, load_says, record_is}
use Rattle.std.specs.Fmt.{digits}
use Rattle.worked_commands.proofs.boots.kernel_is_loaded.Goals as goal

reads_back : IsReadBack (record_of_load load1 few_plan)
unfolding record_text record_reading tested_head read_head segment_at segment_text read_segments tested_segments head_text head_fault bare_refusal shape_refusal field with_field zeros compress digest_bytes first_words hash_after rounds schedule sha256
reads_back = refl

alone : (goods : Made) → load_makes pool (Ok goods) → goods ≡ load_goods
alone goods (p, c, (l, told), text, fault, bytes, file, outputs, back) =
    let said : goods.text ≡ load_text = text ∙ load_says c p l.planned l.laid told in
    let memory : bytes ≡ loaded_file = load_leaves c p bytes l.planned l.laid file in
    let recorded : record_file (record_of_load c.load p) ≡ three_bytes_file = record_is c p l.planned l.laid in
    let put : goods.outputs ≡ (codes "o", loaded_file) ∷ (codes "r", three_bytes_file) ∷ [] = outputs ∙ λ i. (codes "o", memory i) ∷ (codes "r", recorded i) ∷ [] in
    λ i. record { outputs = put i; text = said i; fault = fault i }

enough : load_makes pool (Err (by (reasons.NoPages 3 3))) → ⊥
enough (inl (p, e, few)) = omega (arith, few.2)
enough (inr (p, c, b, h)) = h

pub returns-clause-made : goal.returns-clause-made
unfolding digits
returns-clause-made c = (few_plan, checked1, (loaded1, told1), sym (load_says checked1 few_plan plan_is sealed told1), refl, loaded_file, loaded_is, ap (λ bytes. (codes "o", loaded_file) ∷ (codes "r", bytes) ∷ []) (sym (record_is checked1 few_plan plan_is sealed)), reads_back)

pub returns-clause-nothing_else : goal.returns-clause-nothing_else
unfolding digits
returns-clause-nothing_else c = alone

pub returns-clause-not_refused : goal.returns-clause-not_refused
unfolding digits
returns-clause-not_refused c = enough

pub returns-clause-never_too_long : goal.returns-clause-never_too_long
unfolding digits
returns-clause-never_too_long c = λ h. h
