-- What a run of the machine comes to is what the program means.
use Rattle.std.proofs.Common.{◌≡◌, ◌≤◌, ◌<◌, ◌+◌, ℕ, suc, true, false, Bool, if◌then◌else◌, List, ◌++◌, Option, None, refl, ap, sym, ◌∙◌, subst, append_assoc, arith}
use Rattle.lang_meaning.specs.Objects.{Object}
use Rattle.lang_meaning.specs.Values.{Value}
use Rattle.lang_meaning.specs.State.{Outcome, value, exit, full, more, at_segment, at_site, words}
use Rattle.lang_meaning.specs.Prefixes.{IsPrefix, IsLastOf}
use Rattle.lang_meaning.specs.Meaning.{Meant, End, ended_value, ended_unhandled, ended_full, ended_more, by_class, class_in, ending_of}
use Rattle.lang_meaning.specs.Meaning as meaning
use Rattle.flat_language.specs.FlatState.{FlatState}
use Rattle.flat_language.specs.FlatMeaning.{flat_meaning}
use Rattle.flat_language.specs.Flatten.{flat_program}
use Rattle.flat_language.specs.Law.{SameRun}
use Rattle.base.specs.Given.{WasGiven}
use Rattle.lang_alike.specs.Alike.{StoresAlike}
use Rattle.lang_told.specs.Ends.{TellsEnd}
use Rattle.lang_told.specs.Laws.{LawOfAlikeTellings}
use Rattle.eval_machine.specs.Configuration.{Setting, Control, evaluate, signals, come_to, ContinuationFrame, Configuration}
use Rattle.eval_machine.specs.Step.{control_step}
use Rattle.eval_machine.specs.Run.{begins, IsEnd, outcome_of, done}
use Rattle.eval_machine.specs.Law.{LawOfMachine, Ends}
use Rattle.eval_machine.specs.RunLaws.{printed_at, left_at, LawOfPrinting, LawOfReading, LawOfUnits, LawOfWords}
use Rattle.lang_meaning.specs.declared.evaluation.EvaluationEnd.{EvaluationEnd}
use Rattle.lang_meaning.specs.declared.evaluation.EvaluationEnd.TheVariants as endings
use Rattle.lang_meaning.specs.Evaluation.{Evaluation, meaning_with, end_for, end_of, Taken, Begins}
use Rattle.lang_meaning.specs.Evaluates.{most_forms, HasEnded, IsCutOff, IsSpent, ReadsOn, EndsSo, Evaluates, BreaksOff}
use Rattle.eval_run.specs.declared.answer.Counted.{Counted}
use Rattle.eval_run.specs.Moments.{setting_of, configuration_after, forms_after}
use Rattle.eval_run.specs.UnderWay.{StopsAt, SpentAt, WantsAt, CutOffAt, ComesTo, HasRun, HasCounted, HasBroken, IsToldAt}
use Rattle.eval_run.specs.Units.{CountsSo, Counts}
use Rattle.eval_run.specs.Telling.{TellsSo, EvaluationTells}
use Rattle.eval_run.proofs.Coming.{forms_more}
use Rattle.eval_run.proofs.Counting.{printed_up_to_end, left_up_to_end, units_up_to_end}

-- what the flat program means
abbrev flat_with : Evaluation → List ℕ → Meant
flat_with e input = flat_meaning e.names (flat_program e.program) input e.levels (words e.words)

-- the laws of runs, and that the flat program means the same
pub record Known (e : Evaluation) : Type 0 where
  pub machine : LawOfMachine
  pub printing : LawOfPrinting
  pub reading : LawOfReading
  pub units : LawOfUnits
  pub full : LawOfWords
  pub tellings : LawOfAlikeTellings
  pub alike : (input : List ℕ) → StoresAlike (meaning_with e input).store (flat_meaning e.names (flat_program e.program) input e.levels (words e.words)).store
  pub same : (input : List ℕ) → SameRun (meaning_with e input) (flat_meaning e.names (flat_program e.program) input e.levels (words e.words))

-- a machine that has ended has done what the program means
done_so : (e : Evaluation) → Known e → (input : List ℕ) (n : ℕ) → IsEnd (setting_of e) (configuration_after e input n)
    → done (configuration_after e input n) ≡ flat_with e input
done_so e known input n h = (known.machine e.names (flat_program e.program) input e.levels (words e.words)).leads n h

printed_so : (e : Evaluation) → Known e → (input : List ℕ) (n : ℕ) → IsEnd (setting_of e) (configuration_after e input n)
    → printed_at (configuration_after e input n) ≡ (meaning_with e input).printed
printed_so e known input n h = ap (λ (m : Meant). m.printed) (done_so e known input n h) ∙ (known.same input).printed

-- the end is told alike in stores where each value is of the same class
ending_alike : (end : End) (one other : List Object) → ((v : Value) → class_in other v ≡ class_in one v) → ending_of end other ≡ ending_of end one
ending_alike (ended_value v) one other h = refl
ending_alike (ended_unhandled c place) one other h = ap (λ class. by_class class place) (h c)
ending_alike (ended_full asked left) one other h = refl
ending_alike ended_more one other h = refl

ends_alike : (one other : Meant) → SameRun one other → end_of other ≡ end_of one
ends_alike one other h =
    ap (λ x. end_for (ending_of x other.store)) h.end ∙ ap end_for (ending_alike one.end one.store other.store h.class)

ends_so : (e : Evaluation) → Known e → (input : List ℕ) (n : ℕ) (end : EvaluationEnd) → IsEnd (setting_of e) (configuration_after e input n)
    → end_of (done (configuration_after e input n)) ≡ end → end_of (meaning_with e input) ≡ end
ends_so e known input n end h q =
    sym (ends_alike (meaning_with e input) (flat_with e input) (known.same input)) ∙ sym (ap end_of (done_so e known input n h)) ∙ q

-- what was printed up to any configuration is a beginning of what the program prints
prefix_so : (e : Evaluation) → Known e → (input : List ℕ) (n : ℕ) → IsPrefix (printed_at (configuration_after e input n)) (meaning_with e input).printed
prefix_so e known input n =
    let ends : Ends (setting_of e) (configuration_after e input 0) = (known.machine e.names (flat_program e.program) input e.levels (words e.words)).ends in
    subst (IsPrefix (printed_at (configuration_after e input n))) (printed_so e known input ends.count ends.is_end)
    (printed_up_to_end known.printing (setting_of e) (configuration_after e input 0) n ends.count ends.is_end)

prefix_then : (a b c : List ℕ) → IsPrefix a b → IsPrefix b c → IsPrefix a c
prefix_then a b c h q = record {
  rest = h.rest ++ q.rest;
  is = sym (append_assoc a h.rest q.rest) ∙ ap (λ x. x ++ q.rest) h.is ∙ q.is;
}

-- the words are full only where more of them were asked for than were left
full_outcome : (o : Outcome) (store : List Object) (asked left : ℕ) → end_for (ending_of (meaning.end_of o) store) ≡ endings.Full asked left → o ≡ full asked left
full_outcome (value v) store asked left h = absurd (cc h)
full_outcome (exit n v (at_site place)) store asked left h = absurd (cc h)
full_outcome (exit n v (at_segment segment)) store asked left h = absurd (cc h)
full_outcome (full a l) store asked left h = cc h
full_outcome more store asked left h = absurd (cc h)

full_control : (s : Setting) (c : Control) (frames : List ContinuationFrame) (z : FlatState) (store : List Object) (asked left : ℕ) → control_step s c frames z ≡ None
    → end_for (ending_of (meaning.end_of (outcome_of c)) store) ≡ endings.Full asked left → c ≡ come_to (full asked left)
full_control s (evaluate f at) frames z store asked left h q = absurd (cc h)
full_control s (signals c mark level around) frames z store asked left h q = absurd (cc q)
full_control s (come_to o) frames z store asked left h q = ap come_to (full_outcome o store asked left q)

full_so : (e : Evaluation) → Known e → (input : List ℕ) (n asked left : ℕ) → IsEnd (setting_of e) (configuration_after e input n)
    → end_of (done (configuration_after e input n)) ≡ endings.Full asked left → left < asked
full_so e known input n asked left h q =
    let m : Configuration = configuration_after e input n in
    known.full (setting_of e) input e.levels n asked left
    (full_control (setting_of e) m.control m.frames m.state m.state.state.store asked left h q)

-- of what was left of the input at any configuration the program leaves the last ones
left_so : (e : Evaluation) → Known e → (input : List ℕ) (n : ℕ) → IsLastOf (meaning_with e input).left (left_at (configuration_after e input n))
left_so e known input n =
    let ends : Ends (setting_of e) (configuration_after e input 0) = (known.machine e.names (flat_program e.program) input e.levels (words e.words)).ends in
    let same : left_at (configuration_after e input ends.count) ≡ (meaning_with e input).left =
    ap (λ (m : Meant). m.left) (done_so e known input ends.count ends.is_end) ∙ (known.same input).left in
    subst (λ xs. IsLastOf xs (left_at (configuration_after e input n))) same
    (left_up_to_end known.reading (setting_of e) (configuration_after e input 0) n ends.count ends.is_end)

-- the program counts as many units as forms begin up to any configuration, or more
units_so : (e : Evaluation) → Known e → (input : List ℕ) (n : ℕ) → forms_after e input n ≤ (meaning_with e input).units
units_so e known input n =
    let ends : Ends (setting_of e) (configuration_after e input 0) = (known.machine e.names (flat_program e.program) input e.levels (words e.words)).ends in
    subst (λ k. forms_after e input n ≤ k) (ap (λ (m : Meant). m.units) (done_so e known input ends.count ends.is_end) ∙ (known.same input).units)
    (units_up_to_end known.units (setting_of e) (configuration_after e input 0) n ends.count ends.is_end)

one_over : (c : Bool) (all some most units : ℕ) → all ≡ some + (if c then 1 else 0) → c ≡ true → some ≡ most → all ≤ units → most < units
one_over true all some most units p q r h = omega arith
one_over false all some most units p q r h = absurd (cc q)

-- the ends
ended : (e : Evaluation) → Known e → (input : List ℕ) (given given' : Option (List ℕ)) (end : EvaluationEnd) (units : ℕ) → StopsAt e input given given' end units
    → HasEnded e input given given' end
ended e known input given given' end units h = record {
  ends = ends_so e known input h.count end h.stops h.ends;
  printed = subst (λ bytes. WasGiven given bytes given') (printed_so e known input h.count h.stops) h.printed;
}

cut_off : (e : Evaluation) → Known e → (input : List ℕ) (given given' : Option (List ℕ)) → CutOffAt e input given given' → IsCutOff e input given given'
cut_off e known input given given' h = record {
  front = h.front;
  prefix = prefix_then h.front (printed_at (configuration_after e input h.count)) (meaning_with e input).printed h.prefix (prefix_so e known input h.count);
  printed = h.printed;
}

printed_by : (e : Evaluation) → Known e → (input : List ℕ) (given given' : Option (List ℕ)) (n : ℕ) → WasGiven given (printed_at (configuration_after e input n)) given'
    → IsCutOff e input given given'
printed_by e known input given given' n h = record { front = printed_at (configuration_after e input n); prefix = prefix_so e known input n; printed = h }

spent : (e : Evaluation) → Known e → (input : List ℕ) (given given' : Option (List ℕ)) → SpentAt e input given given' → IsSpent e input given given'
spent e known input given given' h = record {
  many = one_over (begins (configuration_after e input h.count).control) (forms_after e input (suc h.count)) (forms_after e input h.count) most_forms (meaning_with e input).units
      (forms_more (setting_of e) h.count (configuration_after e input 0)) h.goes_on h.forms (units_so e known input (suc h.count));
  cut_off = printed_by e known input given given' h.count h.printed;
}

reads_on : (e : Evaluation) → Known e → (t : Taken) (input : List ℕ) (b : Begins t input) (given given' : Option (List ℕ)) → WantsAt e t input b given given'
    → ReadsOn e t input b given given'
reads_on e known t input b given given' h = record {
  not_all = h.not_all;
  takes = subst (IsLastOf (meaning_with e input).left) h.left (left_so e known input h.count);
  cut_off = printed_by e known input given given' h.count h.printed;
}

ends_there : (e : Evaluation) → Known e → (end : EvaluationEnd) (units : ℕ) (t : Taken) (input : List ℕ) (b : Begins t input) (given given' : Option (List ℕ))
    → ComesTo end units e t input b given given' → EndsSo end e t input b given given'
ends_there e known endings.Value units t input b given given' h = ended e known input given given' endings.Value units h
ends_there e known (endings.Unhandled class site) units t input b given given' h = ended e known input given given' (endings.Unhandled class site) units h
ends_there e known (endings.Full asked left) units t input b given given' h =
    (full_so e known input h.count asked left h.stops h.ends, ended e known input given given' (endings.Full asked left) units h)
ends_there e known endings.More units t input b given given' h = ended e known input given given' endings.More units h
ends_there e known endings.Spent units t input b given given' h = spent e known input given given' h.1
ends_there e known endings.ReadFault units t input b given given' h = reads_on e known t input b given given' h.1
ends_there e known endings.WriteFault units t input b given given' h = cut_off e known input given given' h.1

-- a run that has ended, and one that broke off
pub evaluated : (e : Evaluation) → Known e → (left left' given given' : Option (List ℕ)) (end : EvaluationEnd) → HasRun e left left' given given' end
    → Evaluates e left left' given given' end
evaluated e known left left' given given' end h = record {
  taken = h.taken;
  was_taken = h.was_taken;
  ends = λ input b. ends_there e known end h.units h.taken input b given given' (h.comes input b);
}

pub broken : (e : Evaluation) → Known e → (left left' given given' : Option (List ℕ)) → HasBroken e left left' given given'
    → BreaksOff e left left' given given'
broken e known left left' given given' h = record {
  taken = h.taken;
  was_taken = h.was_taken;
  cut_off = λ input b. cut_off e known input given given' (h.cut_off input b);
}

-- the units that were counted where the machine ended are those of the program's meaning
counted_so : (e : Evaluation) → Known e → (input : List ℕ) (given given' : Option (List ℕ)) (end : EvaluationEnd) (units : ℕ) → StopsAt e input given given' end units
    → (meaning_with e input).units ≡ units
counted_so e known input given given' end units h =
    sym (ap (λ (m : Meant). m.units) (done_so e known input h.count h.stops) ∙ (known.same input).units) ∙ h.counted

counts_there : (e : Evaluation) → Known e → (end : EvaluationEnd) (units : ℕ) (t : Taken) (input : List ℕ) (b : Begins t input) (given given' : Option (List ℕ))
    → ComesTo end units e t input b given given' → CountsSo end e input units
counts_there e known endings.Value units t input b given given' h = counted_so e known input given given' endings.Value units h
counts_there e known (endings.Unhandled class site) units t input b given given' h = counted_so e known input given given' (endings.Unhandled class site) units h
counts_there e known (endings.Full asked left) units t input b given given' h = counted_so e known input given given' (endings.Full asked left) units h
counts_there e known endings.More units t input b given given' h = counted_so e known input given given' endings.More units h
counts_there e known endings.Spent units t input b given given' h = h.0
counts_there e known endings.ReadFault units t input b given given' h = h.0
counts_there e known endings.WriteFault units t input b given given' h = h.0

pub counts : (e : Evaluation) → Known e → (left left' given given' : Option (List ℕ)) (c : Counted) → HasCounted e left left' given given' c → Counts e left left' c
counts e known left left' given given' c h = record {
  taken = h.has_run.taken;
  was_taken = h.has_run.was_taken;
  units = λ input b. subst (λ n. CountsSo c.end e input n) h.units
      (counts_there e known c.end h.has_run.units h.has_run.taken input b given given' (h.has_run.comes input b));
}

-- what is told where the machine has ended is told of the program's meaning: the flat program leaves an alike store
tells_there : (e : Evaluation) → Known e → (end : EvaluationEnd) (input told : List ℕ) → IsToldAt end e input told → TellsSo end e input told
tells_there e known (endings.Unhandled class site) input told h =
    let P : Meant → Type 0 = λ m. TellsEnd e.names e.program m told in
    let there : P (flat_with e input) = subst P (done_so e known input h.count h.stops) h.tells in
    record {
      condition = there.condition;
      place = there.place;
      end = sym (known.same input).end ∙ there.end;
      tells = (known.tellings e.names e.program.classes (meaning_with e input).store (flat_with e input).store there.condition told (known.alike input)).1 there.tells;
    }
tells_there e known end input told h = h

pub tells : (e : Evaluation) → Known e → (left left' given given' : Option (List ℕ)) (c : Counted) → HasCounted e left left' given given' c → EvaluationTells e left left' c
tells e known left left' given given' c h = record {
  taken = h.has_run.taken;
  was_taken = h.has_run.was_taken;
  tells = λ input b. tells_there e known c.end input c.told (h.told input b);
}
