-- What is answered is told from how the run ended: a stop by a fault is an end, and want of memory breaks off.
use Rattle.std.proofs.Common.{◌≡◌, ℕ, true, List, Option, Some, None, Result, Ok, Err, IfOk, IfErr, OnErr, MatchResult, refl, sym, subst}
use Rattle.base.specs.declared.faults.NoMemory.{NoMemory as MemoryFault}
use Rattle.lang_meaning.specs.declared.program.ProgramRows.{ProgramRows}
use Rattle.lang_meaning.specs.State as state
use Rattle.lang_meaning.specs.State.{Limit}
use Rattle.lang_meaning.specs.Facts.{is_whole}
use Rattle.lang_meaning.specs.Meaning.{meaning}
use Rattle.flat_language.specs.declared.program.FlatProgram.{FlatProgram}
use Rattle.flat_language.specs.FlatMeaning.{flat_meaning}
use Rattle.flat_language.specs.Flatten.{flat_program}
use Rattle.flat_language.specs.Law.{SameRun}
use Rattle.flat_stores.specs.Laws.{LawOfStores}
use Rattle.lang_told.specs.Laws.{LawOfAlikeTellings}
use Rattle.eval_machine.specs.Law.{LawOfMachine}
use Rattle.eval_machine.specs.RunLaws.{LawOfPrinting, LawOfReading, LawOfUnits, LawOfWords}
use Rattle.lang_meaning.specs.declared.evaluation.EvaluationEnd.{EvaluationEnd}
use Rattle.lang_meaning.specs.declared.evaluation.EvaluationEnd.TheVariants as endings
use Rattle.eval_run.specs.declared.answer.Counted.{Counted}
use Rattle.eval_run.specs.declared.stop.Stop.{Stop}
use Rattle.eval_run.specs.declared.stop.Stop.TheVariants as stop
use Rattle.lang_meaning.specs.Evaluation.{Evaluation}
use Rattle.lang_meaning.specs.Evaluates.{Evaluates, BreaksOff, Tells}
use Rattle.eval_run.specs.UnderWay.{HasRun, HasCounted, StopsSo, StopTells, IsOwnEnd, untold, end_told}
use Rattle.eval_run.specs.Units.{Counts}
use Rattle.eval_run.specs.Telling.{EvaluationTells}
use Rattle.eval_run.proofs.Meant.{Known, evaluated, counts, tells, broken}

-- the end that is told
abbrev EndIsTold : Result Counted Stop → Result Counted MemoryFault → Type 0
EndIsTold ended result = MatchResult result (λ c. end_told ended ≡ Some c) (λ _. end_told ended ≡ None)

same_end : (c c' : Counted) → Some c ≡ Some c' → c ≡ c'
same_end c c' h = cc h

no_end : (c : Counted) (P : Type 0) → Some c ≡ None → P
no_end c P h = absurd (cc h)

-- an end of its own is no fault
own_tells : (end : EvaluationEnd) (SourceRises SinkRises : Type 0) → IsOwnEnd end → Tells end SourceRises SinkRises
own_tells endings.Value SourceRises SinkRises h = tt
own_tells (endings.Unhandled class site) SourceRises SinkRises h = tt
own_tells (endings.Full asked left) SourceRises SinkRises h = tt
own_tells endings.More SourceRises SinkRises h = tt
own_tells endings.Spent SourceRises SinkRises h = tt
own_tells endings.ReadFault SourceRises SinkRises h = absurd h
own_tells endings.WriteFault SourceRises SinkRises h = absurd h

pub faults_told : (ended : Result Counted Stop) (result : Result Counted MemoryFault) (SourceRises SinkRises : Type 0) → IfOk ended (λ c. IsOwnEnd c.end)
    → IfErr ended (λ s. StopTells s SourceRises SinkRises) → EndIsTold ended result → IfOk result (λ c. Tells c.end SourceRises SinkRises)
faults_told ended (Err f) SourceRises SinkRises own stops h = tt
faults_told (Ok c) (Ok c') SourceRises SinkRises own stops h =
    subst (λ (x : Counted). Tells x.end SourceRises SinkRises) (same_end c c' h) (own_tells c.end SourceRises SinkRises own)
faults_told (Err stop.NoMemory) (Ok c') SourceRises SinkRises own stops h = no_end c' (Tells c'.end SourceRises SinkRises) (sym h)
faults_told (Err stop.ReadFault) (Ok c') SourceRises SinkRises own stops h =
    subst (λ (x : Counted). Tells x.end SourceRises SinkRises) (same_end (untold endings.ReadFault) c' h) stops
faults_told (Err stop.WriteFault) (Ok c') SourceRises SinkRises own stops h =
    subst (λ (x : Counted). Tells x.end SourceRises SinkRises) (same_end (untold endings.WriteFault) c' h) stops

-- what is known of the program where it was made flat
pub known_of : (e : Evaluation) (flat : FlatProgram) → LawOfMachine → LawOfPrinting → LawOfReading → LawOfUnits → LawOfWords → LawOfStores → LawOfAlikeTellings → is_whole e.program ≡ true
    → flat ≡ flat_program e.program
    → ((names : List (List ℕ)) (input : List ℕ) (k : ℕ) (limit : Limit) → SameRun (meaning names e.program input k limit) (flat_meaning names flat input k limit))
    → Known e
known_of e flat machine printing reading units full stores tellings whole made same = record {
  machine = machine;
  printing = printing;
  reading = reading;
  units = units;
  full = full;
  tellings = tellings;
  alike = λ input. stores e.names e.program whole input e.levels (state.words e.words);
  same = λ input.
      let limit : Limit = state.words e.words in
      subst (λ (p : FlatProgram). SameRun (meaning e.names e.program input e.levels limit) (flat_meaning e.names p input e.levels limit)) made
      (same e.names input e.levels limit);
}

-- a run of the flat program is an evaluation
abbrev of_rows : Evaluation → ProgramRows → Evaluation
of_rows e rows = record { names = e.names; program = rows; levels = e.levels; words = e.words }

module _ (e : Evaluation) (known : Known e) (flat : FlatProgram) (made : flat ≡ flat_program e.program) (left left' given given' : Option (List ℕ)) where
  abbrev EndsSo : Counted → Type 0
  EndsSo c = (rows : ProgramRows) → flat ≡ flat_program rows → HasCounted (of_rows e rows) left left' given given' c

  abbrev Stopped : Stop → Type 0
  Stopped s = (rows : ProgramRows) → flat ≡ flat_program rows → StopsSo s (of_rows e rows) left left' given given'

  -- of a run that a fault ended nothing is told
  read_untold : HasRun e left left' given given' endings.ReadFault → HasCounted e left left' given given' (untold endings.ReadFault)
  read_untold run = record {
    has_run = record { taken = run.taken; was_taken = run.was_taken; units = 0; comes = λ input b. (refl, (run.comes input b).1) };
    units = refl;
    told = λ input b. refl;
  }

  write_untold : HasRun e left left' given given' endings.WriteFault → HasCounted e left left' given given' (untold endings.WriteFault)
  write_untold run = record {
    has_run = record { taken = run.taken; was_taken = run.was_taken; units = 0; comes = λ input b. (refl, (run.comes input b).1) };
    units = refl;
    told = λ input b. refl;
  }

  so_run : (c c' : Counted) → HasCounted e left left' given given' c → Some c ≡ Some c' → HasCounted e left left' given given' c'
  so_run c c' run h = subst (λ x. HasCounted e left left' given given' x) (same_end c c' h) run

  pub runs_told : (ended : Result Counted Stop) (result : Result Counted MemoryFault) → IfOk ended EndsSo → IfErr ended Stopped → EndIsTold ended result
      → IfOk result (HasCounted e left left' given given')
  runs_told ended (Err f) runs stops h = tt
  runs_told (Ok c) (Ok c') runs stops h = so_run c c' (runs e.program made) h
  runs_told (Err stop.NoMemory) (Ok c') runs stops h = no_end c' (HasCounted e left left' given given' c') (sym h)
  runs_told (Err stop.ReadFault) (Ok c') runs stops h = so_run (untold endings.ReadFault) c' (read_untold (stops e.program made)) h
  runs_told (Err stop.WriteFault) (Ok c') runs stops h = so_run (untold endings.WriteFault) c' (write_untold (stops e.program made)) h

  -- what is so of the run is so by the meaning
  pub ends_told : (result : Result Counted MemoryFault) → IfOk result (HasCounted e left left' given given')
      → IfOk result (λ c. Evaluates e left left' given given' c.end)
  ends_told (Err f) h = tt
  ends_told (Ok c) h = evaluated e known left left' given given' c.end h.has_run

  pub units_told : (result : Result Counted MemoryFault) → IfOk result (HasCounted e left left' given given') → IfOk result (Counts e left left')
  units_told (Err f) h = tt
  units_told (Ok c) h = counts e known left left' given given' c h

  pub tells_told : (result : Result Counted MemoryFault) → IfOk result (HasCounted e left left' given given') → IfOk result (EvaluationTells e left left')
  tells_told (Err f) h = tt
  tells_told (Ok c) h = tells e known left left' given given' c h

  pub breaks_told : (ended : Result Counted Stop) (result : Result Counted MemoryFault) → IfErr ended Stopped → EndIsTold ended result
      → OnErr result (BreaksOff e left left' given given')
  breaks_told ended (Ok c) stops h = tt
  breaks_told (Ok c) (Err f) stops h = no_end c (BreaksOff e left left' given given') h
  breaks_told (Err stop.NoMemory) (Err f) stops h = broken e known left left' given given' (stops e.program made)
  breaks_told (Err stop.ReadFault) (Err f) stops h = no_end (untold endings.ReadFault) (BreaksOff e left left' given given') h
  breaks_told (Err stop.WriteFault) (Err f) stops h = no_end (untold endings.WriteFault) (BreaksOff e left left' given given') h
