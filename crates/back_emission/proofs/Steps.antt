-- Whole steps: from what a line comes to on both sides to what the law of steps says.
use Rattle.std.proofs.Common.{◌≡◌, ℕ, ◌+◌, ◌≤◌, List, length, sym, ap, subst, arith, Some}
use Rattle.rv_machine.specs.Run.{Moment}
use Rattle.mid_code.specs.Arena.{Block}
use Rattle.mid_code.specs.State.{Registers, MidState, charged, stuck}
use Rattle.mid_lines.specs.declared.line.Line.{Line}
use Rattle.mid_lines.specs.declared.line.LineProgram.{LineProgram}
use Rattle.mid_lines.specs.Lines.{line_of}
use Rattle.mid_lines.specs.LineMeaning.{Activation, Caller, Stage, running, ended, state_of, next, do_line}
use Rattle.mid_lines.specs.StackLaw.{frame_of, StageStands}
use Rattle.back_places.specs.declared.place.Place.{Place}
use Rattle.back_places.specs.Places.{Located}
use Rattle.back_places.specs.LineCode.{line_code, behind_code}
use Rattle.back_places.specs.Good.{IsGood}
use Rattle.back_places.specs.Relation.{Relates}
use Rattle.back_places.specs.StepLaw.{Follows, IsLawful, weight, line_weight}
use Rattle.back_emission.specs.Arriving.{Given}
use Rattle.back_emission.proofs.Coming.{stays}

module _ (program : LineProgram) (l : Located) (Fact : (number line register : ℕ) → Place → Type 0) (first : List Block)
    (good : IsGood program l Fact) where
  -- a stage that comes to an end of which nothing is said
  pub nothing : (s : Stage) (m : Moment) (z : MidState) → next program s ≡ ended stuck z → (state_of s).cost ≤ z.cost → Follows program l Fact first s m
  nothing s m z e cheap = record {
    count = 0;
    moment = m;
    comes = stays m;
    relates = subst (λ t. Relates program l Fact first t m) (sym e) tt;
    cheap = subst (λ t. 0 + (state_of s).cost ≤ (state_of t).cost) (sym e) (omega (arith, cheap));
    heavy = λ h. absurd (subst (λ t. IsLawful t) e h);
  }

  -- a stage whose next one is at a line of the same activation, with the same blocks
  pub follows :
      (a : Activation) (line line' : ℕ) (rs rs' : Registers) (callers : List Caller) (z : MidState) (cost : ℕ) (m : Moment) (count : ℕ)
      → StageStands program first (running a line rs callers z)
      → next program (running a line rs callers z) ≡ running a line' rs' callers (charged cost z)
      → Given program l Fact first a line' rs' callers (charged cost z) m count → count ≤ cost → weight program (running a line rs callers z) ≤ count
      → Follows program l Fact first (running a line rs callers z) m
  follows a line line' rs rs' callers z cost m count st e g cheap heavy = record {
    count = count;
    moment = g.moment';
    comes = g.comes;
    relates = subst (λ t. Relates program l Fact first t g.moment') (sym e) (st, g.runs);
    cheap = subst (λ t. count + z.cost ≤ (state_of t).cost) (sym e) (omega (arith, cheap));
    heavy = λ h. heavy;
  }

  -- what a line does, and weighs
  pub at_line :
      (a : Activation) (line : ℕ) (rs : Registers) (callers : List Caller) (z : MidState) (x : Line) → line_of program a.procedure line ≡ Some x
      → next program (running a line rs callers z) ≡ do_line program (Some x) a line rs callers z
  at_line a line rs callers z x e = ap (λ o. do_line program o a line rs callers z) e

  pub weighs :
      (a : Activation) (line : ℕ) (rs : Registers) (callers : List Caller) (z : MidState) (x : Line) → line_of program a.procedure line ≡ Some x
      → weight program (running a line rs callers z) ≡ line_weight line (Some x)
  weighs a line rs callers z x e = ap (λ o. line_weight line o) e

  -- where the next line stands, behind a line with nothing behind its code
  pub next_line :
      (number line : ℕ) (x : Line) → line_of program number line ≡ Some x → length (behind_code l number line x) ≡ 0
      → l.line_at number (line + 1) ≡ l.line_at number line + length (line_code l number (frame_of program number).words line x)
  next_line number line x e none =
      let laid = good.laid number line x e in
      omega (arith, laid.back, laid.behind, none)
