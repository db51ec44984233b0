-- The devices that keep a log, as contracts see them.
use Rattle.std.proofs.Common.{◌≤◌, length}
use Rattle.kx_edge.specs.declared.edge.Shelf.{Ghosts as Shelf}
use Rattle.kx_edge.specs.declared.edge.Sink.{Ghosts as Sink}
use Rattle.call_log.specs.declared.recorder.Recorder.{Recorder}
use Rattle.call_log.specs.declared.recording_sink.RecordingSink.{RecordingSink}
use Rattle.call_log.specs.Calls.{put, said, taken, unput, unsaid, untaken, wanting}
use Rattle.call_log.specs.inner.Calls.{Logs}
use Rattle.call_log.proofs.Replaying.{KeepsLog, KeepsText}

-- what contracts see of a recorder over a shelf, and of a recording sink over a sink
abbrev pub recorder_over : {S : Type 0} → Shelf S → Shelf (Recorder S)
recorder_over D = record {
  files = λ s. D.files s.inner;
  faults = λ s. D.faults s.inner;
  gives = λ s name most bytes t. D.gives s.inner name most bytes t.inner × Logs s.log (taken name most bytes) t.log × (length bytes ≤ most);
  fails = λ s name t. D.fails s.inner name t.inner × Logs s.log (untaken name) t.log;
  wants = λ s name t. D.wants s.inner name t.inner × Logs s.log (wanting name) t.log;
  puts = λ s name bytes t. D.puts s.inner name bytes t.inner × Logs s.log (put name bytes) t.log;
  cuts = λ s name bytes t. D.cuts s.inner name bytes t.inner × Logs s.log (unput name bytes) t.log;
}

abbrev pub recording_over : {O : Type 0} → Sink O → Sink (RecordingSink O)
recording_over E = record {
  said = λ s. E.said s.inner;
  faults = λ s. E.faults s.inner;
  says = λ s bytes t. E.says s.inner bytes t.inner × Logs s.log (said bytes) t.log;
  breaks = λ s bytes t. E.breaks s.inner bytes t.inner × Logs s.log (unsaid bytes) t.log;
}

pub keeps_log : {S : Type 0} (D : Shelf S) → KeepsLog (recorder_over D) (λ s. s.log)
keeps_log D = record {
  gives = λ s name most bytes t h. h.1;
  within = λ s name most bytes t h. h.2;
  fails = λ s name t h. h.1;
  wants = λ s name t h. h.1;
  puts = λ s name bytes t h. h.1;
  cuts = λ s name bytes t h. h.1;
}

pub keeps_text : {O : Type 0} (E : Sink O) → KeepsText (recording_over E) (λ o. o.log)
keeps_text E = record { says = λ o bytes p h. h.1; breaks = λ o bytes p h. h.1 }
