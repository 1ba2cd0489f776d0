-- The variables of an application, and what is known of a state inside it.
use Rattle.std.proofs.Common.{◌≡◌, ℕ, zero, suc, ◌+◌, ◌==◌, Bool, true, false, List, [], ◌∷◌, ◌++◌, refl, sym, ap, subst, ◌∙◌, Some, length, append_assoc, append-nil, slice_get, slice_set, suc-add, zero-add, arith, if◌then◌else◌}
use Rattle.lang_meaning.specs.declared.program.ProgramRows.{ProgramRows}
use Rattle.lang_meaning.specs.Values.{Value}
use Rattle.lang_meaning.specs.Objects.{Object, Environment}
use Rattle.lang_meaning.specs.State.{State, DynamicContext, Evaluated, Limit, charged, stored, with_words, gives, go_on, go_on_from, Outcome, value, exit, full, more}
use Rattle.lang_meaning.specs.Lookup.{under_number, numbered}
use Rattle.lang_meaning.specs.Form.{Form, Forms, ClauseForms, MaybeForm}
use Rattle.lang_meaning.specs.Signals.{Context, Evaluation, form}
use Rattle.lang_meaning.specs.Meaning.{mean, mean_sequence, mean_clauses, mean_body}
use Rattle.lang_library_laws.specs.Applications.{IsExtended, KeepsPrinting, EndsAs, Ends, IsLimited, at_level}

-- nothing behind, and more behind more
pub nothing_added : {X : Type 0} (xs : List X) → IsExtended X xs xs
nothing_added xs = record { added = []; is = sym (append-nil xs) }

pub same_objects : {store other : List Object} → other ≡ store → IsExtended Object other store
same_objects {store} {other} e = record { added = []; is = sym e ∙ sym (append-nil other) }

pub added_more : {X : Type 0} {xs ys zs : List X} → IsExtended X xs ys → IsExtended X ys zs → IsExtended X xs zs
added_more {X} {xs} {ys} {zs} a b = record {
  added = a.added ++ b.added;
  is = b.is ∙ ap (λ us. us ++ b.added) a.is ∙ append_assoc xs a.added b.added;
}

pub put_behind : {X : Type 0} (xs : List X) (ys : List X) → IsExtended X xs (xs ++ ys)
put_behind xs ys = record { added = ys; is = refl }

-- what stood there still stands there
pub get_front : {X : Type 0} (xs ys : List X) (i : ℕ) (x : X) → slice_get xs i ≡ Some x → slice_get (xs ++ ys) i ≡ Some x
get_front [] ys i x h = absurd (cc h)
get_front (y ∷ xs) ys zero x h = h
get_front (y ∷ xs) ys (suc i) x h = get_front xs ys i x h

pub get_kept : {X : Type 0} {xs ys : List X} → IsExtended X xs ys → (i : ℕ) (x : X) → slice_get xs i ≡ Some x → slice_get ys i ≡ Some x
get_kept {X} {xs} {ys} e i x h = subst (λ us. slice_get us i ≡ Some x) (sym e.is) (get_front xs e.added i x h)

pub get_last : {X : Type 0} (xs : List X) (x : X) → slice_get (xs ++ x ∷ []) (length xs) ≡ Some x
get_last [] x = refl
get_last (y ∷ xs) x = get_last xs x

pub set_behind : {X : Type 0} (xs ys : List X) (i : ℕ) (x : X) → slice_set (xs ++ ys) (length xs + i) x ≡ xs ++ slice_set ys i x
set_behind [] ys i x = ap (λ n. slice_set ys n x) (zero-add i)
set_behind (y ∷ xs) ys i x =
    ap (λ n. slice_set (y ∷ (xs ++ ys)) n x) (suc-add (length xs) i) ∙ ap (λ us. y ∷ us) (set_behind xs ys i x)

-- variables with their places in a frame, and behind so many others
abbrev pub Places : Type 0
Places = List (ℕ × ℕ)

abbrev pub shifted : ℕ → Places → Places
shifted n [] = []
shifted n (p ∷ ps) = (p.0, n + p.1) ∷ shifted n ps

pub numbered_shifted : (vars : List ℕ) (n i : ℕ) → numbered vars (n + i) ≡ shifted n (numbered vars i)
numbered_shifted [] n i = refl
numbered_shifted (v ∷ vs) n i =
    ap (λ us. (v, n + i) ∷ us) (ap (numbered vs) (omega arith) ∙ numbered_shifted vs n (i + 1))

pub found_shifted : (v n : ℕ) (ps : Places) (i : ℕ) → under_number v ps ≡ Some i → under_number v (shifted n ps) ≡ Some (n + i)
found_shifted v n [] i h = absurd (cc h)
found_shifted v n (p ∷ ps) i h = by (v == p.0) refl (found_shifted v n ps i) h
  where
    by : (b : Bool) → (v == p.0) ≡ b → (under_number v ps ≡ Some i → under_number v (shifted n ps) ≡ Some (n + i))
        → (if b then Some p.1 else under_number v ps) ≡ Some i
        → (if b then Some (n + p.1) else under_number v (shifted n ps)) ≡ Some (n + i)
    by true e others g = let same : p.1 ≡ i = cc g in ap (λ m. Some (n + m)) same
    by false e others g = others g

-- what an application is evaluated in: the program, the words there are, the state at its begin, the objects that it keeps, what it
-- means that its levels are too few, and what may be printed inside
pub record Setting : Type 1 where
  pub names : List (List ℕ)
  pub program : ProgramRows
  pub limit : Limit
  pub base : State
  pub kept : List Object
  pub short : Type 0
  pub may : List ℕ → Type 0

abbrev pub at : Setting → ℕ → Context
at s k = at_level s.names s.program s.limit k

-- inside the application its variables have these values, behind those that were there, these are all objects, and that is printed;
-- nothing else was changed but charges
pub record Holds (s : Setting) (said : List ℕ) (frame : List Value) (store : List Object) (objects : List Object) (variables : List Value) (printed input : List ℕ) (globals dynamics : List (List ℕ × Value)) (symbols : ℕ) : Type 0 where
  pub objects_are : objects ≡ store
  pub extended : IsExtended Object s.kept store
  pub variables_are : variables ≡ s.base.variables ++ frame
  pub printed_are : printed ≡ said
  pub may_be : s.may said
  pub input_is : input ≡ s.base.input
  pub globals_are : globals ≡ s.base.globals
  pub dynamics_are : dynamics ≡ s.base.dynamics
  pub symbols_are : symbols ≡ s.base.symbols

abbrev pub InFrame : Setting → List ℕ → List Value → List Object → State → Type 0
InFrame s said frame store z = Holds s said frame store z.store z.variables z.printed z.input z.globals z.dynamics z.symbols

-- what is kept until an evaluation ends without a value
abbrev pub Stays : Setting → State → Type 0
Stays s after = KeepsPrinting s.may s.kept s.base after

pub kept_as : {s : Setting} {said : List ℕ} {frame : List Value} {store : List Object} {z : State} (IsPrinted : List ℕ → Type 0) → IsPrinted said
    → InFrame s said frame store z → KeepsPrinting IsPrinted s.kept s.base z
kept_as {s} {said} {frame} {store} {z} IsPrinted p h = record {
  objects = subst (IsExtended Object s.kept) (sym h.objects_are) h.extended;
  variables = record { added = frame; is = h.variables_are };
  printed = subst IsPrinted (sym h.printed_are) p;
  input = h.input_is;
  globals = h.globals_are;
  dynamics = h.dynamics_are;
  symbols = h.symbols_are;
}

pub kept_in_frame : {s : Setting} {said : List ℕ} {frame : List Value} {store : List Object} {z : State} → InFrame s said frame store z → Stays s z
kept_in_frame {s} {said} {frame} {store} {z} h = kept_as s.may h.may_be h

-- how an evaluation inside the application may end
pub record Runs (s : Setting) (Q : Value → State → Type 0) (r : Evaluated) : Type 0 where
  pub ends : Ends (λ after. IsLimited s.limit × Stays s after) (λ after. s.short × Stays s after) Q r

abbrev pub RunsAs : Setting → (Value → State → Type 0) → Outcome → State → Type 0
RunsAs s Q o z = EndsAs (λ after. IsLimited s.limit × Stays s after) (λ after. s.short × Stays s after) Q o z

-- a value, in a frame, where that is printed
pub record After (s : Setting) (said : List ℕ) (Q : Value → List Value → List Object → Type 0) (v : Value) (z : State) : Type 0 where
  pub frame : List Value
  pub store : List Object
  pub holds : InFrame s said frame store z
  pub is : Q v frame store

pub on : {s : Setting} {P Q : Value → State → Type 0} {next : Value → State → Evaluated} (r : Evaluated)
    → Runs s P r → ((v : Value) (z : State) → P v z → Runs s Q (next v z)) → Runs s Q (go_on r next)
on {s} {P} {Q} {next} r h c = record { ends = by r.outcome r.state h.ends }
  where
    by : (o : Outcome) (z : State) → RunsAs s P o z → RunsAs s Q (go_on_from o z next).outcome (go_on_from o z next).state
    by (value v) z g = (c v z g).ends
    by (exit e v landing) z g = absurd g
    by (full asked left) z g = g
    by more z g = g

-- what is evaluated with so many levels: a form, forms in order behind a last value, clauses, a body; a form one level below
pub data Part : Type 0 where
  a_form : ℕ → Form → Part
  in_order : ℕ → Value → Forms → Part
  some_clauses : ℕ → ClauseForms → Part
  a_body : ℕ → Value → MaybeForm → Part
  one_below : ℕ → Form → Part

abbrev pub evaluated : Setting → Part → Evaluation
evaluated s (a_form k f) = mean (at s k) f
evaluated s (in_order k last fs) = mean_sequence (at s k) last fs
evaluated s (some_clauses k cs) = mean_clauses (at s k) cs
evaluated s (a_body k v b) = mean_body (at s k) v b
evaluated s (one_below k f) = (at s k).below (form f)

-- inside the application, where the variables have those places, the part comes from this frame and store to a value, a frame and a
-- store of which that holds, and from one printed text to another
pub record ComesPrinting (s : Setting) (said said' : List ℕ) (places : Places) (part : Part) (frame : List Value) (store : List Object) (Q : Value → List Value → List Object → Type 0) : Type 0 where
  pub runs : (env : Environment) (around : DynamicContext) (z : State) → env.variables ≡ shifted (length s.base.variables) places
      → InFrame s said frame store z → Runs s (After s said' Q) (evaluated s part env around z)

-- the same, where nothing is printed
abbrev pub Comes : Setting → Places → Part → List Value → List Object → (Value → List Value → List Object → Type 0) → Type 0
Comes s places part frame store Q = ComesPrinting s s.base.printed s.base.printed places part frame store Q

-- a value at once
pub given : {s : Setting} {said : List ℕ} {frame : List Value} {store : List Object} {Q : Value → List Value → List Object → Type 0} (v : Value) (z : State)
    → InFrame s said frame store z → Q v frame store → Runs s (After s said Q) (gives v z)
given {s} {said} {frame} {store} {Q} v z h q = record { ends = record { frame = frame; store = store; holds = h; is = q } }

-- what holds of more values
pub weaker : {s : Setting} {said said' : List ℕ} {places : Places} {part : Part} {frame : List Value} {store : List Object} {P Q : Value → List Value → List Object → Type 0}
    → ComesPrinting s said said' places part frame store P → ((v : Value) (fr : List Value) (st : List Object) → P v fr st → Q v fr st)
    → ComesPrinting s said said' places part frame store Q
weaker {s} {said} {said'} {places} {part} {frame} {store} {P} {Q} c w = record {
  runs = λ env around z g h. record {
    ends =
        by (evaluated s part env around z).outcome (evaluated s part env around z).state (c.runs env around z g h).ends;
  };
}
  where
    by : (o : Outcome) (z : State) → RunsAs s (After s said' P) o z → RunsAs s (After s said' Q) o z
    by (value v) z g = record { frame = g.frame; store = g.store; holds = g.holds; is = w v g.frame g.store g.is }
    by (exit e v landing) z g = absurd g
    by (full asked left) z g = g
    by more z g = g

-- the same frame
pub at_frame : {s : Setting} {said said' : List ℕ} {places : Places} {part : Part} {frame other : List Value} {store : List Object} {Q : Value → List Value → List Object → Type 0}
    → frame ≡ other → ComesPrinting s said said' places part other store Q → ComesPrinting s said said' places part frame store Q
at_frame {s} {said} {said'} {places} {part} {frame} {other} {store} {Q} e c = subst (λ fr. ComesPrinting s said said' places part fr store Q) (sym e) c

-- the same store
pub at_store : {s : Setting} {said said' : List ℕ} {places : Places} {part : Part} {frame : List Value} {store other : List Object} {Q : Value → List Value → List Object → Type 0}
    → store ≡ other → ComesPrinting s said said' places part frame other Q → ComesPrinting s said said' places part frame store Q
at_store {s} {said} {said'} {places} {part} {frame} {store} {other} {Q} e c = subst (λ st. ComesPrinting s said said' places part frame st Q) (sym e) c

-- a new object, whatever it is charged
pub one_more : {s : Setting} {said : List ℕ} {frame : List Value} {store : List Object} (size charge : ℕ) (o : Object) (z : State) → InFrame s said frame store z
    → InFrame s said frame (store ++ o ∷ []) (stored o (charged charge (with_words size 0 z)))
one_more {s} {said} {frame} {store} size charge o z h = record {
  objects_are = ap (λ os. os ++ o ∷ []) h.objects_are;
  extended = added_more h.extended (put_behind store (o ∷ []));
  variables_are = h.variables_are;
  printed_are = h.printed_are;
  may_be = h.may_be;
  input_is = h.input_is;
  globals_are = h.globals_are;
  dynamics_are = h.dynamics_are;
  symbols_are = h.symbols_are;
}
