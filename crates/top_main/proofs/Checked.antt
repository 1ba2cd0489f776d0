-- How the status of a check comes from what its text is warned of: the warnings are written, and then the line `ok`.
use Rattle.std.proofs.Common.{◌≡◌, ◌≢◌, ℕ, List, refl, sym, ap, subst, ◌∙◌, ◌⊎◌, inl, inr, ⊎_elim, Some, None, true}
use Rattle.std.specs.Prelude.{Option}
use Rattle.base.specs.Given.{WasGiven, WasGivenFront}
use Rattle.top_command.specs.Command.{Request, asked}
use Rattle.top_command.specs.declared.command.Action.{Action}
use Rattle.top_command.specs.declared.command.Action.TheVariants.{Check}
use Rattle.top_exec.specs.Runs.{Sent}
use Rattle.top_lines.specs.Lines.{is_checked, line_of, status_of, ok_line, warning_lines}
use Rattle.top_lines.specs.declared.status.CommandAnswer.{CommandAnswer}
use Rattle.top_lines.specs.declared.status.CommandAnswer.TheVariants as answer
use Rattle.top_lines.specs.declared.status.Status.{Status}
use Rattle.top_lines.specs.declared.status.Status.TheVariants.{Done, WriteFault}
use Rattle.top_lines.specs.declared.status.WarningLine.{WarningLine}
use Rattle.top_main.specs.Answers.{SaysOk, was_usage, was_untold, was_asked, was_ended, was_plain, was_check, was_build, was_exec}
use Rattle.top_main.specs.Theorem.{FileWarns, IsWarned, Writes, IsWritten, IsWrittenCutOff, MakesText, name_of, name_in}
use Rattle.top_main.proofs.Ends.{View, Told}

-- the words ask for a check of a text that is a whole program
pub record Checks (v : View) (lines : List WarningLine) : Type 0 where
  pub command : Request
  pub asked_for : asked v.words ≡ Some command
  pub named : v.name ≡ name_of command
  pub is_check : command.action ≡ Check
  pub unkept : v.kept ≡ None
  pub input : v.InputSame
  pub same : v.Same
  pub warns : FileWarns (v.holds command.file) lines

pub checks : (v : View) (lines : List WarningLine) → Told v (answer.Checked lines) → Checks v lines
checks v lines (was_usage e none shelf same i k) = absurd (cc)
checks v lines (was_untold e shelf same i k) = absurd (cc)
checks v lines (was_asked c is named (was_ended r m h)) = absurd h
checks v lines (was_asked c is named (was_plain p k h)) = absurd h
checks v lines (was_asked c is named (was_check p i same k h)) =
    record { command = c; asked_for = is; named = named; is_check = p; unkept = k; input = i; same = same; warns = h }
checks v lines (was_asked c is named (was_build p i h)) = absurd h
checks v lines (was_asked c is named (was_exec p k h)) = absurd h

-- what a check has to write and to tell
module _ (v : View) (lines : List WarningLine) (x : Checks v lines) where
  abbrev told : List ℕ
  told = warning_lines (name_of x.command) lines

  writes : Writes x.command.action (name_of x.command) (v.holds x.command.file) v.kept ok_line told
  writes =
      let warned : IsWarned (name_of x.command) (v.holds x.command.file) told = record { lines = lines; warns = x.warns; told_is = refl } in
      subst (λ (a : Action). Writes a (name_of x.command) (v.holds x.command.file) v.kept ok_line told) (sym x.is_check)
      (warned, (x.unkept, refl))

  pub told_named : warning_lines v.name lines ≡ told
  told_named = ap (λ (name : List ℕ). warning_lines name lines) x.named

  pub told_asked : warning_lines v.name lines ≡ warning_lines (name_in (asked v.words)) lines
  told_asked = told_named ∙ ap (λ (r : Option Request). warning_lines (name_in r) lines) (sym x.asked_for)

  pub written : (sent : Sent) (said said' : Option (List ℕ)) → WasGiven sent.before ok_line sent.after
      → WasGiven said (warning_lines v.name lines) said' → IsWritten v.words v.holds v.kept sent said said'
  written sent said said' printed line = record {
    command = x.command;
    asked_for = x.asked_for;
    bytes = ok_line;
    told = told;
    writes = writes;
    printed = printed;
    line = subst (λ (text : List ℕ). WasGiven said text said') told_named line;
  }

  pub written_front : (sent : Sent) → WasGivenFront sent.before ok_line sent.after → IsWrittenCutOff v.words v.holds v.kept sent
  written_front sent printed = record {
    command = x.command;
    asked_for = x.asked_for;
    bytes = ok_line;
    told = told;
    writes = writes;
    printed = printed;
  }

-- how the call ends: the warnings could not be written, with nothing given to the output; or all was written; or the line `ok` was cut off
pub data Closed (ErrRises Rises Same Whole Front Line : Type 0) (r : Status) : Type 0 where
  is_cut : r ≡ WriteFault → ErrRises × Same → Closed ErrRises Rises Same Whole Front Line r
  is_whole : r ≡ Done → Whole × Line → Closed ErrRises Rises Same Whole Front Line r
  is_front : r ≡ WriteFault → Rises × Front → Closed ErrRises Rises Same Whole Front Line r

-- a status is that of the warnings, or a write fault
settled : (r : Status) → (r ≢ WriteFault → r ≡ Done) → (r ≡ Done) ⊎ (r ≡ WriteFault)
settled WriteFault w = inr refl
settled other w = inl (w (λ h. cc))

done_is_none : Done ≡ WriteFault → ⊥
done_is_none h = cc

pub closed :
    (v : View) (lines : List WarningLine) (x : Checks v lines) (ErrRises Rises Same : Type 0) (sent : Sent) (said said' : Option (List ℕ)) (r result : Status)
    → (r ≢ WriteFault → r ≡ Done) → (r ≢ WriteFault → WasGiven said (warning_lines v.name lines) said') → (r ≡ WriteFault → ErrRises)
    → SaysOk r result sent.before sent.after Rises Same
    → Closed ErrRises Rises (Same × v.InputSame) (IsWritten v.words v.holds v.kept sent said said') (IsWrittenCutOff v.words v.holds v.kept sent)
    (WasGiven said (warning_lines v.name lines) said') result
closed v lines x ErrRises Rises Same sent said said' r result is_done line fault (inl (not_done, (e, same))) =
    ⊎_elim (λ d. absurd (not_done d)) (λ f. is_cut (e ∙ f) (fault f, (same, x.input))) (settled r is_done)
closed v lines x ErrRises Rises Same sent said said' r result is_done line fault (inr (inl (d, (e, given)))) =
    let told = line (λ h. done_is_none (sym d ∙ h)) in
    is_whole e (written v lines x sent said said' given told, told)
closed v lines x ErrRises Rises Same sent said said' r result is_done line fault (inr (inr (d, (e, (rises, front))))) =
    is_front e (rises, written_front v lines x sent front)

-- what stands after it
module _ {ErrRises Rises Same Whole Front Line : Type 0} {r : Status} where
  pub closed_else : (s : Status) → s ≢ Done → s ≢ WriteFault → Closed ErrRises Rises Same Whole Front Line r → r ≡ s → ⊥
  closed_else s d f (is_cut e h) is = f (sym is ∙ e)
  closed_else s d f (is_whole e h) is = d (sym is ∙ e)
  closed_else s d f (is_front e h) is = f (sym is ∙ e)

  pub closed_done : Closed ErrRises Rises Same Whole Front Line r → r ≡ Done → Whole
  closed_done (is_cut e h) is = absurd (done_is_none (sym is ∙ e))
  closed_done (is_whole e h) is = h.0
  closed_done (is_front e h) is = absurd (done_is_none (sym is ∙ e))

  pub closed_fault : Closed ErrRises Rises Same Whole Front Line r → r ≡ WriteFault → (ErrRises × Same) ⊎ (Rises × Front)
  closed_fault (is_cut e h) is = inl h
  closed_fault (is_whole e h) is = absurd (done_is_none (sym e ∙ is))
  closed_fault (is_front e h) is = inr h

  pub closed_line : Closed ErrRises Rises Same Whole Front Line r → r ≢ WriteFault → (r ≡ Done) × Line
  closed_line (is_cut e h) other = absurd (other e)
  closed_line (is_whole e h) other = (e, h.1)
  closed_line (is_front e h) other = absurd (other e)

-- the words ask for no command that makes its text, and for this one alone
pub no_text : (v : View) (lines : List WarningLine) (x : Checks v lines) (command : Request) → asked v.words ≡ Some command → MakesText command.action → ⊥
no_text v lines x command is makes =
    let same : command ≡ x.command = one command x.command (sym is ∙ x.asked_for) in
    subst MakesText (ap (λ (c : Request). c.action) same ∙ x.is_check) makes
  where
    one : (c d : Request) → Some c ≡ Some d → c ≡ d
    one c d e = cc

pub is_asked : (v : View) (lines : List WarningLine) (x : Checks v lines) → asked v.words ≡ None → ⊥
is_asked v lines x none = differ x.command (sym x.asked_for ∙ none)
  where
    differ : (c : Request) → Some c ≡ None → ⊥
    differ c e = cc

-- a call that answered with what a text is warned of, and ended with this status
pub record CheckEnded (v : View) (ErrRises Rises Same : Type 0) (sent : Sent) (said said' : Option (List ℕ)) (result : Status) : Type 0 where
  pub lines : List WarningLine
  pub checks : Checks v lines
  pub closed :
      Closed ErrRises Rises (Same × v.InputSame) (IsWritten v.words v.holds v.kept sent said said') (IsWrittenCutOff v.words v.holds v.kept sent)
      (WasGiven said (warning_lines v.name lines) said') result

abbrev Ends : (v : View) (ErrRises Rises Same : Type 0) (sent : Sent) (said said' : Option (List ℕ)) (r result : Status) → CommandAnswer → Type 0
Ends v ErrRises Rises Same sent said said' r result a =
    Told v a → (r ≢ WriteFault → r ≡ status_of a) → (r ≢ WriteFault → WasGiven said (line_of v.name a) said')
    → (r ≡ WriteFault → status_of a ≢ WriteFault → ErrRises) → (v.Same → SaysOk r result sent.before sent.after Rises Same)
    → CheckEnded v ErrRises Rises Same sent said said' result

pub check_ended :
    (v : View) (a : CommandAnswer) (ErrRises Rises Same : Type 0) (sent : Sent) (said said' : Option (List ℕ)) (r result : Status)
    → true ≡ is_checked a → Ends v ErrRises Rises Same sent said said' r result a
check_ended v (answer.Checked lines) ErrRises Rises Same sent said said' r result is told done line fault ok =
    let x = checks v lines told in
    record {
      lines = lines;
      checks = x;
      closed = closed v lines x ErrRises Rises Same sent said said' r result done line (λ f. fault f (λ h. cc)) (ok x.same);
    }
check_ended v answer.Done ErrRises Rises Same sent said said' r result is told done line fault ok = absurd (cc)
check_ended v answer.WriteFault ErrRises Rises Same sent said said' r result is told done line fault ok = absurd (cc)
check_ended v (answer.Refused x text) ErrRises Rises Same sent said said' r result is told done line fault ok = absurd (cc)
check_ended v answer.FileFault ErrRises Rises Same sent said said' r result is told done line fault ok = absurd (cc)
check_ended v answer.NoMemory ErrRises Rises Same sent said said' r result is told done line fault ok = absurd (cc)
check_ended v (answer.Budget n) ErrRises Rises Same sent said said' r result is told done line fault ok = absurd (cc)
check_ended v (answer.Usage word) ErrRises Rises Same sent said said' r result is told done line fault ok = absurd (cc)
check_ended v (answer.Unhandled class site slots) ErrRises Rises Same sent said said' r result is told done line fault ok = absurd (cc)
check_ended v (answer.UnhandledClass class site) ErrRises Rises Same sent said said' r result is told done line fault ok = absurd (cc)
check_ended v (answer.ArenaFull wanted room) ErrRises Rises Same sent said said' r result is told done line fault ok = absurd (cc)
check_ended v answer.Spent ErrRises Rises Same sent said said' r result is told done line fault ok = absurd (cc)
check_ended v answer.ReadFault ErrRises Rises Same sent said said' r result is told done line fault ok = absurd (cc)
check_ended v (answer.BadImage reason) ErrRises Rises Same sent said said' r result is told done line fault ok = absurd (cc)
check_ended v (answer.Trap kind address) ErrRises Rises Same sent said said' r result is told done line fault ok = absurd (cc)
