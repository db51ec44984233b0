-- There is one walk.
use Rattle.std.specs.Fmt.{digits}
use Rattle.hex.specs.Hex.{encode_with}
use Rattle.sha2.specs.Sha256.{compress, digest_bytes, first_words, hash_after, rounds, schedule, sha256}
use Rattle.std.proofs.Common.{◌≡◌, ◌∙◌, ℕ, List, [], ◌∷◌, ◌++◌, map, Option, Some, None, refl, sym, ap}
use Rattle.std.specs.List.{flat_map}
use Rattle.kx_pages.specs.Items.{code}
use Rattle.kx_pages.specs.declared.item.Item.TheVariants.{Link}
use Rattle.page_memory.specs.Contents.{Contents, at}
use Rattle.list_checker.specs.Faults.{FaultyBy, nothing_earlier, walk_reasons}
use Rattle.list_checker.specs.Reading.{IsWalk}
use Rattle.list_checker.specs.declared.fault.ListFault.{ListFault}
use Rattle.list_checker.specs.declared.fault.Why.TheVariants.{LinkAgain}
use Rattle.list_checker.proofs.OneWay.{no_walk}
use Rattle.list_checker.proofs.Unique.{walk_same}
use Rattle.list_commands.specs.Dump.{lines_of, segment_line, walk_text, word_line}
use Rattle.worked_commands.specs.Dumps.{list_text, round_text}
use Rattle.worked_commands.specs.Inputs.{three_bytes}
use Rattle.worked_commands.specs.Lists.{HasList, HasWords, one_move}
use Rattle.worked_commands.proofs.Lists.{walk_is}
use Rattle.worked_commands.proofs.dumped.list_is_dumped.Goals as goal

abbrev words : List ℕ
words = 0x11002 ∷ 0x2001 ∷ 0x12008 ∷ 4 ∷ []

walked : (m : Contents) → HasList m → IsWalk (at m) 0x11002 words None
walked m w = (one_move, walk_is (at m) w, (tt, tt), refl)

-- the words of another walk are these
one_walk : (m : Contents) (ws : List ℕ) (fault : Option ListFault) → HasList m → IsWalk (at m) 0x11002 ws fault → (ws ≡ words) × (fault ≡ None)
one_walk m ws None w (is, walk, once, e) = (sym e ∙ ap (map code) (walk_same (at m) 0x11002 is one_move walk (walk_is (at m) w)), refl)
one_walk m ws (Some f) w h = absurd (h.2 one_move (walk_is (at m) w) (tt, tt))

said : walk_text words None ++ flat_map segment_line three_bytes ≡ list_text
unfolding digits segment_line word_line encode_with compress digest_bytes first_words hash_after rounds schedule sha256
said = refl

text_is : (m : Contents) (ws : List ℕ) (fault : Option ListFault) → HasList m → IsWalk (at m) 0x11002 ws fault → walk_text ws fault ++ flat_map segment_line three_bytes ≡ list_text
text_is m ws fault w h = let k = one_walk m ws fault w h in (λ i. walk_text (k.0 i) (k.1 i) ++ flat_map segment_line three_bytes) ∙ said

again : (m : Contents) → HasWords (at m) 0x11000 (0x11002 ∷ []) → FaultyBy (at m) walk_reasons None nothing_earlier 0x11002 1 LinkAgain
again m w = (Link 0x11, refl, refl, (λ p e. cc), rw w.0 refl)

round : (m : Contents) → HasWords (at m) 0x11000 (0x11002 ∷ []) → IsWalk (at m) 0x11002 (0x11002 ∷ 0x11002 ∷ []) (Some (record { word = 1; why = LinkAgain }))
round m w = (again m w, ap (λ v. 0x11002 ∷ v ∷ []) (sym w.0), no_walk (at m) 0x11002 1 LinkAgain (again m w))

round_said : walk_text (0x11002 ∷ 0x11002 ∷ []) (Some (record { word = 1; why = LinkAgain })) ++ flat_map segment_line three_bytes ≡ round_text
unfolding digits segment_line word_line encode_with compress digest_bytes first_words hash_after rounds schedule sha256
round_said = refl

pub returns-clause-told : goal.returns-clause-told
returns-clause-told c = λ m w. (words, None, walked m w, ap lines_of (sym said))

pub returns-clause-nothing_else : goal.returns-clause-nothing_else
returns-clause-nothing_else c = λ m goods w (ws, fault, h, e). e ∙ ap lines_of (text_is m ws fault w h)

pub returns-clause-not_refused : goal.returns-clause-not_refused
returns-clause-not_refused c = λ m why h. h

pub returns-clause-round : goal.returns-clause-round
returns-clause-round c = λ m w. (0x11002 ∷ 0x11002 ∷ [], Some (record { word = 1; why = LinkAgain }), round m w, ap lines_of (sym round_said))
