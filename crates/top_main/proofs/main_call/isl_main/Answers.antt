-- The status of a call, by the answer to its words.
use Rattle.std.proofs.Common.{◌≡◌, ℕ, List, [], sym, inl, inr, ⊎_elim, subst}
use Rattle.base.specs.Given.{WasGiven}
use Rattle.base.specs.Outside.{Rose}
use Rattle.top_exec.specs.Runs.{sent_to}
use Rattle.top_lines.specs.declared.status.CommandAnswer.TheVariants.{Checked}
use Rattle.top_lines.specs.declared.status.Status.TheVariants.{Unhandled, Usage, Refused, ArenaFull, Budget, FileFault, ReadFault, NoMemory, BadImage, Trap}
use Rattle.top_main.specs.Answers.{SaysOk}
use Rattle.top_lines.specs.Lines.{line_of, status_of}
use Rattle.top_main.proofs.Ends.{CallEnded, ends_usage, ends_words_first, ends_done, ends_unhandled, ends_refused, ends_arena_full, ends_budget, ends_file_fault, ends_read_fault, ends_bad_image, ends_trap, ends_write_fault, ends_no_memory, ends_line, ends_input, ends_kept, ends_shelf}
use Rattle.top_main.proofs.Ends.{View}
use Rattle.top_main.proofs.Checked.{CheckEnded, check_ended, closed_else, closed_done, closed_fault, closed_line, no_text, is_asked, told_asked}
use Rattle.top_main.proofs.main_call.isl_main.Goals as goal

pub returns-else-is_checked : goal.returns-else-is_checked
returns-else-is_checked g c =
    let answer = c.answer_to-command.result.answer in
    let Line : List ℕ → Type 0 = λ name. WasGiven (g.E.Sink.given c.args.err.now) (line_of name answer) (g.E.Sink.given c.end_with-status.new.err) in
    let Quiet : List ℕ → Type 0 = λ name. line_of name answer ≡ [] → c.end_with-status.result ≡ status_of answer in
    let end : CallEnded (record { words = _; name = _; holds = _; kept = _; left = _; left' = _; sent = _; ShelfRises = _; SourceRises = _; Rises = _; Same = _; InputSame = _; ShelfSame = _ }) _ _ _ answer c.end_with-status.result = record {
      told = c.answer_to-command.ensures;
      unchecked = sym c.if-is_checked.ensures;
      written = c.end_with-status.ensures.written;
      line = λ told. subst Line c.name_in.ensures (c.end_with-status.ensures.line told);
      fault = c.end_with-status.ensures.fault;
      quiet = subst Quiet c.name_in.ensures c.end_with-status.ensures.quiet;
    } in
    record {
      usage = ends_usage end;
      words_first = ends_words_first end;
      done = ends_done end;
      unhandled = ends_unhandled end;
      arena_full = ends_arena_full end;
      budget = ends_budget end;
      refused = ends_refused end;
      bad_image = ends_bad_image end;
      trap = ends_trap end;
      file_fault = ends_file_fault end;
      read_fault = ends_read_fault end;
      write_fault = ends_write_fault end;
      no_memory = ends_no_memory end;
      line = ends_line end;
      input = ends_input end;
      kept = ends_kept end;
      shelf = ends_shelf end;
    }

pub returns-then-is_checked : goal.returns-then-is_checked
returns-then-is_checked g c =
    let answer = c.answer_to-command.result.answer in
    let out = c.say_ok.new.out in
    let status = c.end_with-status.result in
    let sent = sent_to (g.O.Sink.given c.args.out.now) (g.O.Sink.writes c.args.out.now) (g.O.Sink.given out) (g.O.Sink.writes out) in
    let Line : List ℕ → Type 0 = λ name. WasGiven (g.E.Sink.given c.args.err.now) (line_of name answer) (g.E.Sink.given c.end_with-status.new.err) in
    let view : View = record { words = _; name = _; holds = _; kept = _; left = _; left' = _; sent = _; ShelfRises = _; SourceRises = _; Rises = _; Same = _; InputSame = _; ShelfSame = _ } in
    let end : CheckEnded view _ _ _ sent _ _ c.say_ok.result =
    check_ended view answer _ _ _ sent _ _ status c.say_ok.result c.if-is_checked.ensures c.answer_to-command.ensures
    c.end_with-status.ensures.written (λ told. subst Line c.name_in.ensures (c.end_with-status.ensures.line told))
    c.end_with-status.ensures.fault
    (λ same.
    subst
    (λ z. SaysOk status c.say_ok.result (g.O.Sink.given z) (g.O.Sink.given out) (Rose (g.O.Sink.faults z) (g.O.Sink.faults out)) (out ≡ z))
    same c.say_ok.ensures) in
    record {
      usage = λ e. absurd (closed_else Usage (λ h. cc) (λ h. cc) end.closed e);
      words_first = λ none. absurd (is_asked view end.lines end.checks none);
      done = λ e. inr (inl (closed_done end.closed e));
      unhandled = λ e. absurd (closed_else Unhandled (λ h. cc) (λ h. cc) end.closed e);
      arena_full = λ e. absurd (closed_else ArenaFull (λ h. cc) (λ h. cc) end.closed e);
      budget = λ e. absurd (closed_else Budget (λ h. cc) (λ h. cc) end.closed e);
      refused = λ e. absurd (closed_else Refused (λ h. cc) (λ h. cc) end.closed e);
      bad_image = λ e. absurd (closed_else BadImage (λ h. cc) (λ h. cc) end.closed e);
      trap = λ e. absurd (closed_else Trap (λ h. cc) (λ h. cc) end.closed e);
      file_fault = λ e. absurd (closed_else FileFault (λ h. cc) (λ h. cc) end.closed e);
      read_fault = λ e. absurd (closed_else ReadFault (λ h. cc) (λ h. cc) end.closed e);
      write_fault = λ e. ⊎_elim (λ h. inl h) (λ h. inr (inl (h.0, inr (inl h.1)))) (closed_fault end.closed e);
      no_memory = λ e. absurd (closed_else NoMemory (λ h. cc) (λ h. cc) end.closed e);
      line = λ other.
          let h = closed_line end.closed other in (
            Checked end.lines,
            (
              h.0,
              subst
                  (λ (text : List ℕ). WasGiven (g.E.Sink.given c.args.err.now) text (g.E.Sink.given c.end_with-status.new.err))
                  (told_asked view end.lines end.checks) h.1,
            ),
          );
      input = λ command is reads. end.checks.input;
      kept = λ command is keeps. end.checks.unkept;
      shelf = λ command is makes. absurd (no_text view end.lines end.checks command is makes);
    }
