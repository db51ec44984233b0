-- There is one walk.
use Rattle.std.specs.Fmt.{digits}
use Rattle.hex.specs.Hex.{encode_with}
use Rattle.sha2.specs.Sha256.{compress, digest_bytes, first_words, hash_after, rounds, schedule, sha256}
use Rattle.std.proofs.Common.{◌≡◌, ◌∙◌, ℕ, List, [], ◌∷◌, ◌++◌, map, Option, Some, None, refl, sym, ap, subst}
use Rattle.std.specs.List.{flat_map}
use Rattle.kx_edge.specs.Edge.{Said}
use Rattle.kx_pages.specs.Items.{code}
use Rattle.page_memory.specs.Contents.{Contents, at}
use Rattle.list_checker.specs.Reading.{IsWalk}
use Rattle.list_checker.specs.declared.fault.ListFault.{ListFault}
use Rattle.list_checker.proofs.Unique.{walk_same}
use Rattle.list_commands.specs.Dump.{head_text, segment_line, walk_text, word_line}
use Rattle.worked_commands.specs.Dumps.{crash_text, list_text}
use Rattle.worked_commands.specs.Inputs.{three_bytes}
use Rattle.worked_commands.specs.Lists.{HasList, one_move}
use Rattle.worked_commands.proofs.Lists.{walk_is}
use Rattle.worked_commands.proofs.dumped.dumps_that_were_done.Goals as goal

abbrev words : List ℕ
words = 0x11002 ∷ 0x2001 ∷ 0x12008 ∷ 4 ∷ []

walked : (m : Contents) → HasList m → IsWalk (at m) 0x11002 words None
walked m w = (one_move, walk_is (at m) w, (tt, tt), refl)

-- the words of another walk are these
one_walk : (m : Contents) (ws : List ℕ) (fault : Option ListFault) → HasList m → IsWalk (at m) 0x11002 ws fault → (ws ≡ words) × (fault ≡ None)
one_walk m ws None w (is, walk, once, e) = (sym e ∙ ap (map code) (walk_same (at m) 0x11002 is one_move walk (walk_is (at m) w)), refl)
one_walk m ws (Some f) w h = absurd (h.2 one_move (walk_is (at m) w) (tt, tt))

said : walk_text words None ++ flat_map segment_line three_bytes ≡ list_text
unfolding digits segment_line word_line encode_with compress digest_bytes first_words hash_after rounds schedule sha256
said = refl

text_is : (m : Contents) (ws : List ℕ) (fault : Option ListFault) → HasList m → IsWalk (at m) 0x11002 ws fault → walk_text ws fault ++ flat_map segment_line three_bytes ≡ list_text
text_is m ws fault w h = let k = one_walk m ws fault w h in (λ i. walk_text (k.0 i) (k.1 i) ++ flat_map segment_line three_bytes) ∙ said

crash_said : head_text 4 ++ flat_map segment_line three_bytes ≡ crash_text
unfolding digits segment_line word_line encode_with compress digest_bytes first_words hash_after rounds schedule sha256
crash_said = refl

pub returns-clause-list : goal.returns-clause-list
returns-clause-list g c = λ m w a o t p h. (h.put, subst (λ text. Said (g.O.Sink.said o) text (g.O.Sink.said p)) (text_is m h.list h.fault w h.walk) h.said)

pub returns-clause-list_by : goal.returns-clause-list_by
returns-clause-list_by g c = λ m w a o t p put say. record { list = words; fault = None; walk = walked m w; put = put; said = subst (λ text. Said (g.O.Sink.said o) text (g.O.Sink.said p)) (sym said) say }

pub returns-clause-crash : goal.returns-clause-crash
returns-clause-crash g c = λ m a o t p h. (h.put, subst (λ text. Said (g.O.Sink.said o) text (g.O.Sink.said p)) crash_said h.said)

pub returns-clause-crash_by : goal.returns-clause-crash_by
returns-clause-crash_by g c = λ m a o t p put say. record { put = put; said = subst (λ text. Said (g.O.Sink.said o) text (g.O.Sink.said p)) (sym crash_said) say }
