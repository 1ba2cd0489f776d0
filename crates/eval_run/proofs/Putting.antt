-- What was read is put behind what was read before, or the end of the source was met.
use Rattle.std.proofs.Math.ListN.{drop_of_length-le}
use Rattle.std.proofs.lemmas.Option.{slice_get_cases}
use Rattle.std.proofs.lemmas.Bool.{eqb-true}
use Rattle.std.proofs.lemmas.List.{take-append-drop, length-take-le}
use Rattle.std.proofs.Math.Seq.{drop-nil}
use Rattle.std.proofs.Common.{◌≡◌, ◌<◌, ◌≤◌, ◌≢◌, ℕ, Bool, true, false, ◌||◌, List, [], ◌∷◌, ◌++◌, Option, Some, None, length, take, drop, refl, ap, sym, ◌∙◌, subst, ⊎_elim, append_assoc, arith}
use Rattle.std.specs.Prelude.{Result, Ok, Err, OnOk, IfErr, IfSome, slice_get, is_some, ◌==◌}
use Rattle.base.specs.Outside.{TakesFront}
use Rattle.eval_machine.specs.Configuration.{Configuration}
use Rattle.eval_state.specs.declared.machine.Machine.{Machine}
use Rattle.eval_state.specs.View.{configuration_of}
use Rattle.eval_step.specs.declared.evaluator.Evaluator.{Evaluator}
use Rattle.eval_step.specs.Runs.{IsAtConfiguration}
use Rattle.eval_step.specs.Ports.{IsGivenBytes, IsAllRead}
use Rattle.eval_step.specs.Streams.{is_fed}
use Rattle.eval_run.specs.declared.stop.Stop.{Stop}
use Rattle.lang_meaning.specs.Evaluation.{Evaluation, Taken, Begins, WasTaken}
use Rattle.eval_run.specs.Moments.{configuration_after}
use Rattle.eval_run.specs.UnderWay.{HasCome, UnderWay, IsPutBehind, HasBroken, StopsSo}
use Rattle.eval_run.proofs.Coming.{runs_as}
use Rattle.eval_run.proofs.Stopping.{broken_at}

-- these bytes more were read, and the end was not met
abbrev put_behind : Taken → List ℕ → Taken
put_behind t bytes = record { bytes = t.bytes ++ bytes; all = false }

apart : (b : Bool) → b ≡ false → b ≡ true → ⊥
apart b h k = absurd (cc (sym k ∙ h))

abbrev begins_before : (t : Taken) (bytes input : List ℕ) → t.all ≡ false → Begins (put_behind t bytes) input → Begins t input
begins_before t bytes input more b = record {
  rest = bytes ++ b.rest;
  joined = sym (append_assoc t.bytes bytes b.rest) ∙ b.joined;
  ends = λ h. absurd (apart t.all more h);
}

taken_behind : (left left' left'' : Option (List ℕ)) (t : Taken) (bytes : List ℕ) → IsPutBehind left' bytes left'' → WasTaken left t left' → WasTaken left (put_behind t bytes) left''
taken_behind None left' left'' t bytes p w = tt
taken_behind (Some input) left' left'' t bytes p w =
    let q : IsPutBehind (Some w.0.rest) bytes left'' = subst (λ l. IsPutBehind l bytes left'') w.1 p in (
      record {
        rest = q.0;
        joined = append_assoc t.bytes bytes q.0 ∙ ap (λ xs. t.bytes ++ xs) (sym q.1.0) ∙ w.0.joined;
        ends = λ h. absurd (cc h);
      },
      q.1.1,
    )

pub put : (e : Evaluation) (left left' left'' given given' : Option (List ℕ)) (forms : ℕ) (old new : Evaluator) (bytes : List ℕ) → old.ended ≡ false → IsGivenBytes old new bytes
    → IsPutBehind left' bytes left'' → UnderWay e left left' given given' forms old → UnderWay e left left'' given given' forms new
put e left left' left'' given given' forms old new bytes more i p u = record {
  runs = runs_as e old new (ap (λ (m : Machine). m.given) i.machine) u.runs;
  taken = put_behind u.taken bytes;
  was_taken = taken_behind left left' left'' u.taken bytes p u.was_taken;
  all_is = sym (ap (λ (x : Evaluator). x.ended) i.same ∙ more);
  written = u.written;
  was_given = u.was_given;
  count = u.count;
  comes = λ input b.
      let before : Begins u.taken input = begins_before u.taken bytes input (u.all_is ∙ more) b in
      let h : HasCome e u.taken u.written u.count forms old input before = u.comes input before in
      let a : IsAtConfiguration e.names old u.written (bytes ++ b.rest) (configuration_after e input u.count) = h.is_at in
      record {
        is_at = record {
          beside = a.beside;
          stands = i.stands e.names u.written b.rest a.beside a.stands;
          is = ap (λ (m : Machine). configuration_of e.names m a.beside) i.machine ∙ a.is;
        };
        begun = h.begun;
      };
}

-- they were read, and not given on
pub put_broken : (e : Evaluation) (left left' left'' given given' : Option (List ℕ)) (forms : ℕ) (v : Evaluator) (bytes : List ℕ) → v.ended ≡ false
    → IsPutBehind left' bytes left'' → UnderWay e left left' given given' forms v → HasBroken e left left'' given given'
put_broken e left left' left'' given given' forms v bytes more p u = record {
  taken = put_behind u.taken bytes;
  was_taken = taken_behind left left' left'' u.taken bytes p u.was_taken;
  cut_off = λ input b.
      let before : Begins u.taken input = begins_before u.taken bytes input (u.all_is ∙ more) b in
      broken_at e input given given' forms v u.taken u.written u.count before (u.comes input before) u.was_given;
}

-- the end was met, and all is there
abbrev all_of : Taken → Taken
all_of t = record { bytes = t.bytes; all = true }

all_at : (names : List (List ℕ)) (old new : Evaluator) (written unread : List ℕ) (m : Configuration) → IsAllRead old new → unread ≡ [] → IsAtConfiguration names old written unread m
    → IsAtConfiguration names new written unread m
all_at names old new written unread m i none a =
    let x : IsAtConfiguration names old written [] m = subst (λ xs. IsAtConfiguration names old written xs m) none a in
    let y : IsAtConfiguration names new written [] m = record {
      beside = x.beside;
      stands = i.stands names written x.beside x.stands;
      is = ap (λ (k : Machine). configuration_of names k x.beside) i.machine ∙ x.is;
    } in
    subst (λ xs. IsAtConfiguration names new written xs m) (sym none) y

taken_all : (left left' left'' : Option (List ℕ)) (t : Taken) (bytes : List ℕ) → bytes ≡ [] → IsPutBehind left' bytes left'' → WasTaken left t left' → WasTaken left (all_of t) left''
taken_all None left' left'' t bytes none p w = tt
taken_all (Some input) left' left'' t bytes none p w =
    let q : IsPutBehind (Some w.0.rest) bytes left'' = subst (λ l. IsPutBehind l bytes left'') w.1 p in
    let same : w.0.rest ≡ q.0 = q.1.0 ∙ ap (λ xs. xs ++ q.0) none in (
      record {
        rest = q.0;
        joined = ap (λ xs. t.bytes ++ xs) (sym same) ∙ w.0.joined;
        ends = λ h. q.1.2 none;
      },
      q.1.1,
    )

pub met_end : (e : Evaluation) (left left' left'' given given' : Option (List ℕ)) (forms : ℕ) (old new : Evaluator) (bytes : List ℕ) → bytes ≡ [] → IsAllRead old new
    → IsPutBehind left' bytes left'' → UnderWay e left left' given given' forms old → UnderWay e left left'' given given' forms new
met_end e left left' left'' given given' forms old new bytes none i p u = record {
  runs = runs_as e old new (ap (λ (m : Machine). m.given) i.machine) u.runs;
  taken = all_of u.taken;
  was_taken = taken_all left left' left'' u.taken bytes none p u.was_taken;
  all_is = sym i.ended;
  written = u.written;
  was_given = u.was_given;
  count = u.count;
  comes = λ input b.
      let before : Begins u.taken input = record { rest = b.rest; joined = b.joined; ends = λ h. b.ends refl } in
      let h : HasCome e u.taken u.written u.count forms old input before = u.comes input before in
      record { is_at = all_at e.names old new u.written b.rest (configuration_after e input u.count) i (b.ends refl) h.is_at; begun = h.begun };
}

-- whether a piece has bytes
pub none_where : (bytes : List ℕ) (r : Bool) → r ≡ (length bytes == 0) → r ≡ true → bytes ≡ []
none_where [] r is h = refl
none_where (x ∷ xs) r is h = let e : length (x ∷ xs) ≡ 0 = eqb-true (length (x ∷ xs)) 0 (sym is ∙ h) in absurd (omega arith)

pub some_where : (bytes : List ℕ) (r : Bool) → r ≡ (length bytes == 0) → r ≡ false → bytes ≡ [] → ⊥
some_where bytes r is h none = absurd (cc (sym h ∙ is ∙ ap (λ (xs : List ℕ). length xs == 0) none))

-- whether a byte is there
or_true : (a b : Bool) → b ≡ true → a || b ≡ true
or_true true b h = refl
or_true false b h = h

neither : (a b : Bool) → a || b ≡ false → b ≡ false
neither true b h = absurd (cc h)
neither false b h = h

there_first : (bytes : List ℕ) → (bytes ≡ [] → ⊥) → is_some (slice_get bytes 0) ≡ true
there_first [] h = absurd (h refl)
there_first (x ∷ xs) h = refl

pub not_ended : (v : Evaluator) → is_fed v ≡ false → v.ended ≡ false
not_ended v h = first v.ended (is_some (slice_get v.ahead.items v.taken)) h
  where
    first : (a b : Bool) → a || b ≡ false → a ≡ false
    first true b h = h
    first false b h = refl

pub fed_by : (old new : Evaluator) (bytes : List ℕ) → (bytes ≡ [] → ⊥) → IsGivenBytes old new bytes → is_fed new ≡ true
fed_by old new bytes some i =
    or_true new.ended (is_some (slice_get new.ahead.items new.taken))
    (ap (λ n. is_some (slice_get new.ahead.items n)) i.taken ∙ ap (λ xs. is_some (slice_get xs 0)) i.ahead ∙ there_first bytes some)

past : (xs : List ℕ) (n : ℕ) → is_some (slice_get xs n) ≡ false → length xs ≤ n
past xs n h =
    ⊎_elim (λ y. absurd (cc (sym h ∙ ap is_some y.2))) (λ y. y.0) (slice_get_cases xs n).1

pub all_taken : (v : Evaluator) → is_fed v ≡ false → length v.ahead.items ≤ v.taken
all_taken v h = past v.ahead.items v.taken (neither v.ended (is_some (slice_get v.ahead.items v.taken)) h)

pub none_ahead : (v : Evaluator) → is_fed v ≡ false → drop v.taken v.ahead.items ≡ []
none_ahead v h = drop_of_length-le v.ahead.items (all_taken v h)

-- after a read, where the piece was there or none
pub more_read : {T : Type 0} (r : Result T Stop) (from to : Option (List ℕ)) (bytes : List ℕ) (old new : Evaluator) → IsPutBehind from bytes to
    → OnOk r ((e : Evaluation) (left left' left'' given given' : Option (List ℕ)) (forms : ℕ) → IsPutBehind left' bytes left''
    → UnderWay e left left' given given' forms old → UnderWay e left left'' given given' forms new)
    → OnOk r ((e : Evaluation) (left given given' : Option (List ℕ)) (forms : ℕ) → UnderWay e left from given given' forms old
    → UnderWay e left to given given' forms new)
more_read (Ok x) from to bytes old new p h = λ e left given given' forms u. h e left from to given given' forms p u
more_read (Err s) from to bytes old new p h = tt

pub read_stops : {T : Type 0} (r : Result T Stop) (from to : Option (List ℕ)) (bytes : List ℕ) (old : Evaluator) → IsPutBehind from bytes to
    → IfErr r (λ stop. (e : Evaluation) (left left' left'' given given' : Option (List ℕ)) (forms : ℕ) → IsPutBehind left' bytes left''
    → UnderWay e left left' given given' forms old → StopsSo stop e left left'' given given')
    → IfErr r (λ stop. (e : Evaluation) (left given given' : Option (List ℕ)) (forms : ℕ) → UnderWay e left from given given' forms old
    → StopsSo stop e left to given given')
read_stops (Ok x) from to bytes old p h = tt
read_stops (Err s) from to bytes old p h = λ e left given given' forms u. h e left from to given given' forms p u

-- what a read put into the buffer is what it took of the source
none_taken : (n : ℕ) (xs : List ℕ) → n ≤ length xs → take n xs ≡ [] → (xs ≢ [] → 0 < n) → xs ≡ []
none_taken n [] h none some = refl
none_taken n (x ∷ xs) h none some =
    let k : 0 < n = some (λ e. absurd (cc e)) in
    let l : length (take n (x ∷ xs)) ≡ 0 = ap length none in
    absurd (omega (arith, length-take-le n (x ∷ xs) h))

rest_none : (n : ℕ) (xs : List ℕ) → xs ≡ [] → drop n xs ≡ []
rest_none n xs e = ap (drop n) e ∙ drop-nil n

pub read_behind : (left left' : Option (List ℕ)) (n : ℕ) (buffer buffer' : List ℕ) → 0 < length buffer
    → IfSome left (λ all. TakesFront all n buffer buffer' × (left' ≡ Some (drop n all))) → IsPutBehind left (take n buffer') left'
read_behind None left' n buffer buffer' room h = tt
read_behind (Some all) left' n buffer buffer' room h = (
  drop n all,
  (
    sym (ap (λ xs. xs ++ drop n all) h.0.bytes ∙ take-append-drop n all),
    h.1,
    λ none. rest_none n all (none_taken n all h.0.within (sym h.0.bytes ∙ none) (h.0.ends room)),
  ),
)
