-- The prelude, and then the file.
use Rattle.std.proofs.Common.{◌≡◌, ℕ, ◌<◌, ◌≤◌, List, [], length, Result, Ok, Err, OnOk, IfErr, subst, sym}
use Rattle.base.specs.declared.origin.Origin.TheVariants.{Prelude, File}
use Rattle.base.specs.declared.reason.Stop.{Stop}
use Rattle.base.specs.declared.reason.Stop.TheVariants.{Refused, NoMemory}
use Rattle.base.specs.Limits.{longest_text}
use Rattle.base.specs.Names.{IsTable, Extends}
use Rattle.lang_meaning.specs.declared.program.ProgramRows.{ProgramRows}
use Rattle.front_profile.specs.declared.tables.Tables.{Tables}
use Rattle.front_reader.specs.Readers.{first_place}
use Rattle.front_scope.specs.Scopes.{rows_of, AreInitialTables}
use Rattle.front_files.specs.declared.mode.Mode.{Mode}
use Rattle.front_files.specs.declared.mode.Mode.TheVariants.{Run}
use Rattle.front_files.specs.Verdicts.{all_taken, JudgesText, accepted, too_long, Verdict, source_too_long, prelude_refused, file_refused, file_accepted, Refuses, IsNoProgram}
use Rattle.front_files.specs.bridge.First.{first_later}
use Rattle.front_files.specs.bridge.Later.{judges_later}
use Rattle.front_files.specs.bridge.Stopping.{JudgesStop, BothTaken, in_prelude, in_file, BothStop, VerdictStops}

pub both_taken : (names more : List (List ℕ)) (prelude text : List ℕ) (mode : Mode) (s t u : Tables) → Extends names more →
    JudgesText names Prelude Run s prelude (all_taken t) → JudgesText more File mode t text (all_taken u) → BothTaken more prelude text mode s u
both_taken names more prelude text mode s t u e h k = record {
  between = t;
  in_prelude = judges_later names more Prelude Run s prelude (first_place Prelude) (all_taken t) e h;
  in_file = k;
}

pub prelude_stops : (names : List (List ℕ)) (prelude text : List ℕ) (mode : Mode) (s : Tables) (stop : Stop) →
    JudgesStop names Prelude Run s prelude (first_place Prelude) stop → BothStop names prelude text mode s stop
prelude_stops names prelude text mode s NoMemory h = tt
prelude_stops names prelude text mode s (Refused r) h = in_prelude h

pub file_stops : (names more : List (List ℕ)) (prelude text : List ℕ) (mode : Mode) (s t : Tables) (stop : Stop) → Extends names more →
    JudgesText names Prelude Run s prelude (all_taken t) → JudgesStop more File mode t text (first_place File) stop → BothStop more prelude text mode s stop
file_stops names more prelude text mode s t NoMemory e h k = tt
file_stops names more prelude text mode s t (Refused r) e h k =
    in_file t (judges_later names more Prelude Run s prelude (first_place Prelude) (all_taken t) e h) k

pub whole_accepted : (names more : List (List ℕ)) (prelude text : List ℕ) (mode : Mode) (s u : Tables) (program : ProgramRows) → Extends names more → length text ≤ longest_text →
    AreInitialTables names s → BothTaken more prelude text mode s u → program ≡ rows_of u → Verdict more prelude text mode (accepted program)
whole_accepted names more prelude text mode s u program e short first b same =
    subst (λ x. Verdict more prelude text mode (accepted x)) (sym same)
    (file_accepted b.between u short (record { first = s; is_first = first_later names more s e first; judges = b.in_prelude }) b.in_file)

pub whole_stops : (names more : List (List ℕ)) (prelude text : List ℕ) (mode : Mode) (s : Tables) (stop : Stop) → Extends names more → length text ≤ longest_text →
    AreInitialTables names s → BothStop more prelude text mode s stop → VerdictStops more prelude text mode stop
whole_stops names more prelude text mode s NoMemory e short first h = tt
whole_stops names more prelude text mode s (Refused r) e short first (in_prelude h) =
    prelude_refused r short (record { first = s; is_first = first_later names more s e first; judges = h })
whole_stops names more prelude text mode s (Refused r) e short first (in_file t h k) =
    file_refused t r short (record { first = s; is_first = first_later names more s e first; judges = h }) k

pub no_program : (names : List (List ℕ)) (prelude text : List ℕ) (mode : Mode) (stop : Stop) → IsTable names → VerdictStops names prelude text mode stop →
    IsNoProgram prelude text mode stop
no_program names prelude text mode NoMemory table h = tt
no_program names prelude text mode (Refused r) table h = record { names = names; table = table; verdict = h }

-- of the file behind the prelude, whatever it comes to
pub file_was_taken : {E : Type 0} (r : Result (Unit {0}) E) (names more : List (List ℕ)) (prelude text : List ℕ) (mode : Mode) (s t u : Tables) → Extends names more →
    JudgesText names Prelude Run s prelude (all_taken t) → OnOk r (JudgesText more File mode t text (all_taken u)) → OnOk r (BothTaken more prelude text mode s u)
file_was_taken (Ok x) names more prelude text mode s t u e h k = both_taken names more prelude text mode s t u e h k
file_was_taken (Err x) names more prelude text mode s t u e h k = tt

pub file_was_stopped : (r : Result (Unit {0}) Stop) (names more : List (List ℕ)) (prelude text : List ℕ) (mode : Mode) (s t : Tables) → Extends names more →
    JudgesText names Prelude Run s prelude (all_taken t) → IfErr r (JudgesStop more File mode t text (first_place File)) → IfErr r (BothStop more prelude text mode s)
file_was_stopped (Ok x) names more prelude text mode s t e h k = tt
file_was_stopped (Err x) names more prelude text mode s t e h k = file_stops names more prelude text mode s t x e h k

-- a file that is too long is refused under any table of names
pub too_long_refused : (prelude text : List ℕ) (mode : Mode) → longest_text < length text → Refuses prelude text mode too_long
too_long_refused prelude text mode h = record {
  names = [];
  table = record { once = λ i j t a b. absurd (cc); short = λ i t a. absurd (cc) };
  verdict = source_too_long h;
}
