-- A verdict on a file stays under every later table of names.
use Rattle.std.specs.Prelude.{ℕ, List}
use Rattle.base.specs.Names.{Extends}
use Rattle.base.specs.declared.origin.Origin.TheVariants.{Prelude, File}
use Rattle.front_reader.specs.Readers.{first_place}
use Rattle.front_files.specs.declared.mode.Mode.{Mode}
use Rattle.front_files.specs.declared.mode.Mode.TheVariants.{Run}
use Rattle.front_files.specs.Verdicts.{Judgement, FileVerdict, BehindPrelude, Verdict, source_too_long, prelude_refused, file_refused, file_accepted}
use Rattle.front_files.specs.bridge.First.{first_later}
use Rattle.front_files.specs.WithoutMacros.{PreludeLeaves, VerdictLeaves, WithoutMacros, VerdictWithoutMacros}
use Rattle.front_files.specs.bridge.Later.{judges_later, leaving_later}
use Rattle.front_files.specs.bridge.Leaving.{PreludeLeaving}

pub prelude_later : (old new : List (List ℕ)) (prelude : List ℕ) (j : Judgement) → Extends old new → BehindPrelude old prelude j → BehindPrelude new prelude j
prelude_later old new prelude j e b = record {
  first = b.first;
  is_first = first_later old new b.first e b.is_first;
  judges = judges_later old new _ _ b.first prelude _ j e b.judges;
}

pub verdict_later : (old new : List (List ℕ)) (prelude text : List ℕ) (mode : Mode) (v : FileVerdict) → Extends old new → Verdict old prelude text mode v →
    Verdict new prelude text mode v
verdict_later old new prelude text mode v e (source_too_long l) = source_too_long l
verdict_later old new prelude text mode v e (prelude_refused r l b) = prelude_refused r l (prelude_later old new prelude _ e b)
verdict_later old new prelude text mode v e (file_refused t r l b j) =
    file_refused t r l (prelude_later old new prelude _ e b) (judges_later old new _ mode t text _ _ e j)
verdict_later old new prelude text mode v e (file_accepted t u l b j) =
    file_accepted t u l (prelude_later old new prelude _ e b) (judges_later old new _ mode t text _ _ e j)

-- and so does one on the way to which no macro is defined

prelude_left_later : (old new : List (List ℕ)) (prelude : List ℕ) (j : Judgement) → Extends old new → (b : BehindPrelude old prelude j) → PreludeLeaves WithoutMacros old prelude j b → PreludeLeaving WithoutMacros new prelude j
prelude_left_later old new prelude j e b l =
    let left = leaving_later WithoutMacros old new Prelude Run b.first prelude (first_place Prelude) j e b.judges l in
    record { behind = record { first = b.first; is_first = first_later old new b.first e b.is_first; judges = left.judges }; leaves = left.leaves }

left_later : (old new : List (List ℕ)) (prelude text : List ℕ) (mode : Mode) (v : FileVerdict) → Extends old new → (g : Verdict old prelude text mode v)
    → VerdictLeaves WithoutMacros old prelude text mode v g → VerdictWithoutMacros new prelude text mode v
left_later old new prelude text mode v e (source_too_long l) none = record { verdict = source_too_long l; none = tt }
left_later old new prelude text mode v e (prelude_refused r l b) none =
    let left = prelude_left_later old new prelude _ e b none in
    record { verdict = prelude_refused r l left.behind; none = left.leaves }
left_later old new prelude text mode v e (file_refused t r l b j) none =
    let left = leaving_later WithoutMacros old new File mode t text (first_place File) _ e j none in
    record { verdict = file_refused t r l (prelude_later old new prelude _ e b) left.judges; none = left.leaves }
left_later old new prelude text mode v e (file_accepted t u l b j) none =
    record { verdict = file_accepted t u l (prelude_later old new prelude _ e b) (judges_later old new _ mode t text _ _ e j); none = none }

pub without_later : (old new : List (List ℕ)) (prelude text : List ℕ) (mode : Mode) (v : FileVerdict) → Extends old new → VerdictWithoutMacros old prelude text mode v →
    VerdictWithoutMacros new prelude text mode v
without_later old new prelude text mode v e g = left_later old new prelude text mode v e g.verdict g.none
