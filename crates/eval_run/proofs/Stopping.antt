-- An evaluation on its way stops: at its end, where another form would be too many, where a byte is wanted, and anywhere.
use Rattle.std.proofs.Common.{◌≡◌, ◌≤◌, ℕ, true, false, List, [], ◌++◌, Option, Some, None, drop, refl, ap, sym, ◌∙◌, subst, append_assoc, append-nil, arith}
use Rattle.std.specs.Prelude.{⊤, IfSome}
use Rattle.lang_meaning.specs.Meaning.{Meant, Ending, with_value, by_class, for_words, for_levels, ending_of}
use Rattle.base.specs.Given.{WasGiven, WasGivenFront}
use Rattle.flat_language.specs.FlatNodes.{tables}
use Rattle.lang_meaning.specs.declared.program.ProgramRows.{ProgramRows}
use Rattle.lang_told.specs.Told.{Tells}
use Rattle.lang_told.specs.Ends.{TellsEnd}
use Rattle.eval_machine.specs.Configuration.{Setting, Configuration}
use Rattle.eval_machine.specs.Run.{begins, IsEnd, done}
use Rattle.eval_machine.specs.RunLaws.{printed_at, units_at}
use Rattle.eval_store.specs.View.{Beside}
use Rattle.eval_state.specs.declared.machine.Machine.{Machine}
use Rattle.eval_state.specs.declared.machine.Control.{Control}
use Rattle.eval_state.specs.declared.machine.Control.TheVariants.{Evaluate, Again, Signals, ComeTo}
use Rattle.eval_state.specs.View.{configuration_of, control_of}
use Rattle.eval_step.specs.declared.evaluator.Evaluator.{Evaluator}
use Rattle.eval_step.specs.Runs.{IsAtConfiguration}
use Rattle.eval_step.specs.Advanced.{StopsBecause}
use Rattle.eval_step.specs.Ports.{IsWritten}
use Rattle.eval_step.specs.Streams.{control_reads}
use Rattle.lang_meaning.specs.declared.evaluation.EvaluationEnd.{EvaluationEnd}
use Rattle.lang_meaning.specs.declared.evaluation.EvaluationEnd.TheVariants as endings
use Rattle.lang_meaning.specs.Evaluation.{Evaluation, end_for, end_of, Taken, Begins, WasTaken}
use Rattle.lang_meaning.specs.Evaluates.{most_forms}
use Rattle.eval_run.specs.declared.answer.Counted.{Counted}
use Rattle.eval_run.specs.Moments.{setting_of, configuration_after, forms_after, wants_byte}
use Rattle.eval_run.specs.Telling.{TellsOf}
use Rattle.eval_run.specs.UnderWay.{RunsFor, IsToldAt, HasCome, UnderWay, StopsAt, CutOffAt, ComesTo, HasRun, HasCounted, HasBroken, IsOwnEnd, untold}
use Rattle.eval_run.proofs.Coming.{runs_as, nowhere}

-- bytes were given, and then others
pub given_more : (given given' given'' : Option (List ℕ)) (front more : List ℕ) → WasGiven given front given' → WasGiven given' more given'' → WasGiven given (front ++ more) given''
given_more given given' None front more g h = tt
given_more given given' (Some after) front more g h =
    let p : WasGiven given front (Some h.0) = subst (λ x. WasGiven given front x) h.1 g in
    (p.0, p.1, h.2 ∙ ap (λ x. x ++ more) p.2 ∙ append_assoc p.0 front more)

-- what was printed by the configuration
printed_so : (names : List (List ℕ)) (v : Evaluator) (written unread : List ℕ) (m : Configuration) → IsAtConfiguration names v written unread m → printed_at m ≡ written ++ v.printed.items
printed_so names v written unread m a = sym (ap printed_at a.is) ∙ a.stands.printed

printed_all : (names : List (List ℕ)) (v : Evaluator) (written unread : List ℕ) (m : Configuration) → v.printed.items ≡ [] → IsAtConfiguration names v written unread m → written ≡ printed_at m
printed_all names v written unread m none a = sym (printed_so names v written unread m a ∙ ap (λ xs. written ++ xs) none ∙ append-nil written)

-- all that was printed was written
pub wrote : (e : Evaluation) (left left' given given' given'' : Option (List ℕ)) (forms : ℕ) (old new : Evaluator) → WasGiven given' old.printed.items given''
    → IsWritten old new → UnderWay e left left' given given' forms old → UnderWay e left left' given given'' forms new
wrote e left left' given given' given'' forms old new g w u = record {
  runs = runs_as e old new (ap (λ (m : Machine). m.given) w.machine) u.runs;
  taken = u.taken;
  was_taken = u.was_taken;
  all_is = u.all_is ∙ sym (ap (λ (x : Evaluator). x.ended) w.same);
  written = u.written ++ old.printed.items;
  was_given = given_more given given' given'' u.written old.printed.items u.was_given g;
  count = u.count;
  comes = λ input b.
      let h : HasCome e u.taken u.written u.count forms old input b = u.comes input b in
      let a : IsAtConfiguration e.names old u.written b.rest (configuration_after e input u.count) = h.is_at in
      record {
        is_at = record {
          beside = a.beside;
          stands = w.stands e.names u.written b.rest a.beside a.stands;
          is = ap (λ (m : Machine). configuration_of e.names m a.beside) w.machine ∙ a.is;
        };
        begun = h.begun;
      };
}

-- a front of it was
pub cut : (e : Evaluation) (left left' given given' given'' : Option (List ℕ)) (forms : ℕ) (v : Evaluator) → WasGivenFront given' v.printed.items given''
    → UnderWay e left left' given given' forms v → HasRun e left left' given given'' endings.WriteFault
cut e left left' given given' given'' forms v g u = record {
  taken = u.taken;
  was_taken = u.was_taken;
  units = 0;
  comes = λ input b.
      let a : IsAtConfiguration e.names v u.written b.rest (configuration_after e input u.count) = (u.comes input b).is_at in (
        refl,
        record {
          count = u.count;
          front = u.written ++ g.0;
          prefix = record {
            rest = g.1;
            is = append_assoc u.written g.0 g.1 ∙ ap (λ xs. u.written ++ xs) g.2.0 ∙ sym (printed_so e.names v u.written b.rest (configuration_after e input u.count) a);
          };
          printed = given_more given given' given'' u.written g.0 u.was_given g.2.1;
        },
      );
}

-- anywhere, a front was written
pub broken_at : (e : Evaluation) (input : List ℕ) (given given' : Option (List ℕ)) (forms : ℕ) (v : Evaluator) (t : Taken) (written : List ℕ) (count : ℕ) (b : Begins t input)
    → HasCome e t written count forms v input b → WasGiven given written given' → CutOffAt e input given given'
broken_at e input given given' forms v t written count b h g = record {
  count = count;
  front = written;
  prefix = record { rest = v.printed.items; is = sym (printed_so e.names v written b.rest (configuration_after e input count) h.is_at) };
  printed = g;
}

pub broken : (e : Evaluation) (left left' given given' : Option (List ℕ)) (forms : ℕ) (v : Evaluator) → UnderWay e left left' given given' forms v → HasBroken e left left' given given'
broken e left left' given given' forms v u = record {
  taken = u.taken;
  was_taken = u.was_taken;
  cut_off = λ input b. broken_at e input given given' forms v u.taken u.written u.count b (u.comes input b) u.was_given;
}

-- the ends that the meaning tells
abbrev pub MeaningTells : EvaluationEnd → Type 0
MeaningTells endings.Spent = ⊥
MeaningTells endings.ReadFault = ⊥
MeaningTells endings.WriteFault = ⊥
MeaningTells end = ⊤

told : (x : Ending) → MeaningTells (end_for x)
told (with_value v) = tt
told (by_class class site) = tt
told (for_words asked left) = tt
told for_levels = tt

told_so : (end : EvaluationEnd) (m : Meant) → end_of m ≡ end → MeaningTells end
told_so end m is = subst MeaningTells is (told (ending_of m.end m.store))

is_own : (end : EvaluationEnd) → MeaningTells end → IsOwnEnd end
is_own endings.Spent h = absurd h
is_own endings.ReadFault h = absurd h
is_own endings.WriteFault h = absurd h
is_own w h = tt

-- an evaluator tells ends that are no faults
pub own_end : (v : Evaluator) (end : EvaluationEnd) → ((names : List (List ℕ)) (b : Beside) → end_of (done (configuration_of names v.machine b)) ≡ end) → IsOwnEnd end
own_end v end is = is_own end (told_so end (done (configuration_of [] v.machine nowhere)) (is [] nowhere))

comes_to : (end : EvaluationEnd) (units : ℕ) (e : Evaluation) (t : Taken) (input : List ℕ) (b : Begins t input) (given given' : Option (List ℕ)) → MeaningTells end
    → StopsAt e input given given' end units → ComesTo end units e t input b given given'
comes_to endings.Spent units e t input b given given' h s = absurd h
comes_to endings.ReadFault units e t input b given given' h s = absurd h
comes_to endings.WriteFault units e t input b given given' h s = absurd h
comes_to w units e t input b given given' h s = s

few : (a b c : ℕ) → a ≡ b → b ≤ c → a ≤ c
few a b c e h = omega arith

-- it is told of a program with these classes
told_with :
    (names : List (List ℕ)) (one other : ProgramRows) (m : Meant) (told : List ℕ) → one.classes ≡ other.classes → TellsEnd names one m told
    → TellsEnd names other m told
told_with names one other m told same h = record {
  condition = h.condition;
  place = h.place;
  end = h.end;
  tells = subst (λ cs. Tells names cs m.store h.condition told) same h.tells;
}

-- what is told of the end of the evaluator is told where the machine has ended
told_at :
    (end : EvaluationEnd) (e : Evaluation) (names : List (List ℕ)) (v : Evaluator) (input told : List ℕ) (count : ℕ) (b : Beside) → e.names ≡ names
    → RunsFor e v → configuration_of e.names v.machine b ≡ configuration_after e input count → IsEnd (setting_of e) (configuration_after e input count)
    → TellsOf end names (tables v.machine.given.program.now) (done (configuration_of names v.machine b)) told → IsToldAt end e input told
told_at (endings.Unhandled class site) e names v input told count b same runs is stops h =
    let rows : ProgramRows = tables v.machine.given.program.now in
    let P : List (List ℕ) → Type 0 = λ ns. TellsEnd ns rows (done (configuration_of ns v.machine b)) told in
    let Q : Configuration → Type 0 = λ m. TellsEnd e.names rows (done m) told in
    record {
      count = count;
      stops = stops;
      tells = told_with e.names rows e.program (done (configuration_after e input count)) told (ap (λ (s : Setting). s.program.classes) runs.setting)
          (subst Q is (subst P (sym same) h));
    }
told_at end e names v input told count b same runs is stops h = h

-- the machine has ended, so many units were counted, and that is told of its end
pub ended : (e : Evaluation) (left left' given given' : Option (List ℕ)) (forms : ℕ) (v : Evaluator) (names : List (List ℕ)) (c : Counted) → e.names ≡ names → forms ≤ most_forms
    → v.printed.items ≡ [] → StopsBecause v false → ((names : List (List ℕ)) (b : Beside) → end_of (done (configuration_of names v.machine b)) ≡ c.end)
    → ((names : List (List ℕ)) (b : Beside) → units_at (configuration_of names v.machine b) ≡ c.units)
    → ((b : Beside) → TellsOf c.end names (tables v.machine.given.program.now) (done (configuration_of names v.machine b)) c.told)
    → UnderWay e left left' given given' forms v → HasCounted e left left' given given' c
ended e left left' given given' forms v names c same h none stopped is units tells u = record {
  has_run = record {
    taken = u.taken;
    was_taken = u.was_taken;
    units = c.units;
    comes = λ input b.
        let k : HasCome e u.taken u.written u.count forms v input b = u.comes input b in
        let m : Configuration = configuration_after e input u.count in
        let a : IsAtConfiguration e.names v u.written b.rest m = k.is_at in
        let there : Configuration = configuration_of e.names v.machine a.beside in
        comes_to c.end c.units e u.taken input b given given' (told_so c.end (done there) (is e.names a.beside)) (record {
          count = u.count;
          stops = subst (λ (x : Configuration). IsEnd (setting_of e) x) a.is (stopped e.names (setting_of e) a.beside);
          ends = ap (λ (x : Configuration). end_of (done x)) (sym a.is) ∙ is e.names a.beside;
          counted = ap units_at (sym a.is) ∙ units e.names a.beside;
          printed = subst (λ xs. WasGiven given xs given') (printed_all e.names v u.written b.rest m none a) u.was_given;
          few = few (forms_after e input u.count) forms most_forms k.begun h;
        });
  };
  units = refl;
  told = λ input b.
      let a : IsAtConfiguration e.names v u.written b.rest (configuration_after e input u.count) = (u.comes input b).is_at in
      told_at c.end e names v input c.told u.count a.beside same u.runs a.is
      (subst (λ (x : Configuration). IsEnd (setting_of e) x) a.is (stopped e.names (setting_of e) a.beside)) (tells a.beside);
}

-- another form is to begin, after so many
pub spent : (e : Evaluation) (left left' given given' : Option (List ℕ)) (forms : ℕ) (v : Evaluator) → forms ≡ most_forms
    → v.printed.items ≡ [] → StopsBecause v true → UnderWay e left left' given given' forms v → HasCounted e left left' given given' (untold endings.Spent)
spent e left left' given given' forms v h none stopped u = record {
  has_run = record {
    taken = u.taken;
    was_taken = u.was_taken;
    units = 0;
    comes = λ input b.
        let k : HasCome e u.taken u.written u.count forms v input b = u.comes input b in
        let m : Configuration = configuration_after e input u.count in
        let a : IsAtConfiguration e.names v u.written b.rest m = k.is_at in (
          refl,
          record {
            count = u.count;
            forms = k.begun ∙ h;
            goes_on = ap (λ (x : Configuration). begins x.control) (sym a.is) ∙ stopped e.names a.beside;
            printed = subst (λ xs. WasGiven given xs given') (printed_all e.names v u.written b.rest m none a) u.was_given;
          },
        );
  };
  units = refl;
  told = λ input b. refl;
}

-- a step that reads wants a byte
wants_so : (names : List (List ℕ)) (m : Machine) (k : Control) → control_reads k ≡ true → wants_byte (control_of names m k) ≡ true
wants_so names m (Evaluate f s) h = h
wants_so names m (Again test body s) h = absurd (cc h)
wants_so names m (Signals c mark level around) h = absurd (cc h)
wants_so names m (ComeTo o) h = absurd (cc h)

-- what was left is left still, where the source tells it
pub taken_still : (left left' left'' : Option (List ℕ)) (t : Taken) → IfSome left' (λ xs. left'' ≡ Some xs) → WasTaken left t left' → WasTaken left t left''
taken_still None left' left'' t same w = tt
taken_still (Some input) left' left'' t same w = (w.0, subst (λ l. IfSome l (λ xs. left'' ≡ Some xs)) w.1 same)

-- a byte is wanted, and all that was read was taken
pub wants : (e : Evaluation) (left left' left'' given given' : Option (List ℕ)) (forms : ℕ) (v : Evaluator) → IfSome left' (λ xs. left'' ≡ Some xs)
    → v.printed.items ≡ [] → control_reads v.machine.control ≡ true → drop v.taken v.ahead.items ≡ [] → v.ended ≡ false
    → UnderWay e left left' given given' forms v → HasRun e left left'' given given' endings.ReadFault
wants e left left' left'' given given' forms v same none reads all_taken not_met u = record {
  taken = u.taken;
  was_taken = taken_still left left' left'' u.taken same u.was_taken;
  units = 0;
  comes = λ input b.
      let m : Configuration = configuration_after e input u.count in
      let a : IsAtConfiguration e.names v u.written b.rest m = (u.comes input b).is_at in (
        refl,
        record {
          not_all = u.all_is ∙ not_met;
          count = u.count;
          wants = ap (λ (x : Configuration). wants_byte x.control) (sym a.is) ∙ wants_so e.names v.machine v.machine.control reads;
          left = ap (λ (x : Configuration). x.state.state.input) (sym a.is) ∙ a.stands.input ∙ ap (λ xs. xs ++ b.rest) all_taken;
          printed = subst (λ xs. WasGiven given xs given') (printed_all e.names v u.written b.rest m none a) u.was_given;
        },
      );
}
