-- **What is to be shown of each routine**: a call of it does what the meaning does there.
use Rattle.std.specs.Prelude.{◌≡◌, ℕ, ◌+◌, ◌*◌, ◌<◌, ◌≤◌, true, false, List, [], ◌∷◌, ◌++◌, Option, Some, None, length, slice_get, slice_index_or, if◌then◌else◌}
use Rattle.lang_meaning.specs.declared.program.GenericRow.{GenericRow}
use Rattle.lang_meaning.specs.Classes.{class_of, fetch, is_condition}
use Rattle.std.specs.Str.{bytes_eq}
use Rattle.lang_meaning.specs.Lookup.{text, passed}
use Rattle.lang_meaning.specs.BuiltIn.{built_in_slots}
use Rattle.lang_meaning.specs.Objects.{Chain, Called, built_in_classes, serious_condition_class}
use Rattle.lang_meaning.specs.Primitives.{is_function}
use Rattle.lang_meaning.specs.State.{DynamicContext, Landing}
use Rattle.lang_meaning.specs.Values.{Value, nil}
use Rattle.flat_language.specs.FlatMeaning.{mean_apply, mean_signal, mean_next}
use Rattle.flat_language.specs.FlatNodes.{tables}
use Rattle.flat_language.specs.FlatSignals.{FlatContext, signal, signal_under, signal_domain_error, apply_value, apply_generic_row, apply_chain, transfer, throw_to, continue_with, descend, make_list, with_record}
use Rattle.flat_language.specs.FlatState.{FlatState, FlatEvaluated, gives, leaves, charged}
use Rattle.mid_code.specs.State.{returns, MidState, MidOutcome}
use Rattle.mid_arena.specs.FixedWords.{pending_address}
use Rattle.mid_arena.specs.Places.{word_of}
use Rattle.mid_arena.specs.Standing.{ValueAt}
use Rattle.back_lowering.specs.ControlWords.{landing_address}
use Rattle.back_lowering.specs.Placement.{dynamic_address}
use Rattle.back_lowering.specs.Routines.{transfer_routine, leave_routine, throw_routine, continue_routine, raise_routine, signal_routine, pending_routine, failing_routine, failing_with_routine, domain_routine, function_routine, apply_routine, generic_routine, chain_routine, next_routine, level_routine, list_routine, method_routine, binding_routine, is_function_routine, class_routine}
use Rattle.back_relation.specs.Setting.{Setting}
use Rattle.back_relation.specs.Room.{routine_words, failing_words, raise_words, entry_words, generic_words, applying_words, next_words, apply_words, looking_words, level_words}
use Rattle.back_relation.specs.Chains.{ChainAt, ChainTakes, GenericAt}
use Rattle.back_relation.specs.Placed.{HasDynamic, HasSymbol}
use Rattle.back_relation.specs.Worlds.{World, on_stack, LandsIn, Standing, record_of_exit}
use Rattle.back_relation.specs.StackWords.{HasWordAt}
use Rattle.back_relation.specs.Around.{CallBegins, SiteStored}
use Rattle.back_relation.specs.Activation.{MethodHeld, MethodThere}
use Rattle.back_relation.specs.Ends.{PaidFrom, WorldKept, Around, LandingIs, Ends, Returned, CallEnds}
use Rattle.back_relation.specs.Forms.{context_at, code_at, below_at}
use Rattle.back_relation.specs.Procedures.{called, as_registers, ArgumentsLent, ArgumentsGiven}

-- What is paid of the cost of a call before: of a routine that signals a new condition or transfers, of one that signals what may be no
-- condition, of a level, of what makes a list or words of arguments, of a chain, of the next method, and of the application of a generic function, of
-- a value and to a list. The application of a value to one argument is paid 1,170, which is what a signal has for a handler.
abbrev pub routine_credit : ℕ
routine_credit = 450

abbrev pub signal_credit : ℕ
signal_credit = 600

abbrev pub level_credit : ℕ
level_credit = 40

abbrev pub list_credit : ℕ → ℕ
list_credit n = 100 + 20 * n

abbrev pub argument_credit : ℕ → ℕ
argument_credit n = 300 + 20 * n

-- what is done at most, beside what its words pay, where there is no room for the call of a method that is to be kept
abbrev pub no_words_cost : ℕ
no_words_cost = 40

abbrev pub chain_credit : ℕ
chain_credit = 220

abbrev pub next_credit : ℕ
next_credit = 300

abbrev pub generic_credit : ℕ → ℕ
generic_credit n = 490 + 460 * n

abbrev pub applying_credit : ℕ → ℕ
applying_credit n = 710 + 460 * n

abbrev pub apply_credit : ℕ
apply_credit = 1500

-- So many turns what makes a list or keeps a call for an entry leaves over: the one of the entry, and those that a unit pays, of which the body leaves
-- something.
abbrev pub entry_spare : ℕ
entry_spare = 17

-- what routines that only look cost
abbrev pub is_function_cost : ℕ
is_function_cost = 150

abbrev pub class_cost : ℕ
class_cost = 302

-- a class of conditions that is built in, whose instances have so many slots
pub record IsBuiltInCondition (class count : ℕ) : Type 0 where
  pub low : serious_condition_class ≤ class
  pub high : class < built_in_classes
  pub slots : slice_index_or built_in_slots class 0 ≡ count

module _ (setting : Setting) where
  -- so many words stand for values
  abbrev pub WordIs : World → ℕ → Value → Type 0
  WordIs w word v = word_of w.places v ≡ Some word

  -- k levels, so many turns, and where the call begins
  module _ (k turns : ℕ) (rs valid : List Standing) (w : World) (around : DynamicContext) (z : FlatState) (y : MidState) where
    abbrev pub context : FlatContext
    context = context_at setting k

    -- a routine that is called with words, where there are so many of the stack, does what the meaning comes to
    abbrev pub DoesAnywhere : (room credit routine : ℕ) → List ℕ → FlatEvaluated → Type 0
    DoesAnywhere room credit routine ws r =
        CallBegins setting rs valid room w around z y
        → CallEnds setting credit turns rs valid w around z y r (called (code_at setting k turns) routine ws y)

    -- the same where the site is stored
    abbrev pub Does : (room credit routine : ℕ) → List ℕ → FlatEvaluated → Type 0
    Does room credit routine ws r = SiteStored setting around y → DoesAnywhere room credit routine ws r

    -- ---- transfers

    -- to the record of a valid exit, where the landing is stored
    abbrev pub TransferDoes : Type 0
    TransferDoes =
        (e : ℕ) (v : Value) (landing : Landing) (target : Standing) (word landing_word : ℕ)
        → record_of_exit e around.exits valid ≡ Some target → WordIs w word v → HasWordAt y landing_address landing_word
        → LandingIs setting landing_word landing → LandsIn (slice_get w.exit_forms e) landing
        → DoesAnywhere routine_words routine_credit (transfer_routine setting.at) (target.address ∷ word ∷ []) (leaves e v landing z)

    abbrev pub LeaveDoes : Type 0
    LeaveDoes =
        (e : ℕ) (v : Value) (landing : Landing) (word landing_word : ℕ)
        → WordIs w word v → LandingIs setting landing_word landing → LandsIn (slice_get w.exit_forms e) landing
        → Does routine_words routine_credit (leave_routine setting.at) (e ∷ word ∷ landing_word ∷ []) (transfer context (Some e) v landing around z)

    abbrev pub ThrowDoes : Type 0
    ThrowDoes =
        (tag v : Value) (tag_word word : ℕ) → WordIs w tag_word tag → WordIs w word v
        → Does routine_words routine_credit (throw_routine setting.at) (tag_word ∷ word ∷ []) (throw_to context tag v around z)

    abbrev pub ContinueDoes : Type 0
    ContinueDoes =
        (c v : Value) (c_word word : ℕ) → WordIs w c_word c → WordIs w word v
        → Does routine_words routine_credit (continue_routine setting.at) (c_word ∷ word ∷ []) (continue_with context c v around z)

    -- ---- signals

    -- a condition is signalled under the handlers around
    abbrev pub RaiseDoes : Type 0
    RaiseDoes =
        (c mark : Value) (c_word mark_word : ℕ) → is_condition (tables setting.program) z.state c ≡ true → WordIs w c_word c → WordIs w mark_word mark
        → Does raise_words routine_credit (raise_routine setting.at) (c_word ∷ mark_word ∷ []) (signal_under context around.handlers c mark around z)

    abbrev pub SignalDoes : Type 0
    SignalDoes =
        (c mark : Value) (c_word mark_word : ℕ) → WordIs w c_word c → WordIs w mark_word mark
        → Does routine_words signal_credit (signal_routine setting.at) (c_word ∷ mark_word ∷ []) (mean_signal context c mark around z)

    abbrev pub PendingDoes : Type 0
    PendingDoes =
        (c : Value) → is_condition (tables setting.program) z.state c ≡ true → ValueAt w.places y.arena pending_address c
        → Does failing_words routine_credit (pending_routine setting.at) [] (signal_under context around.handlers c nil around z)

    -- new conditions
    abbrev pub FailingDoes : Type 0
    FailingDoes =
        (class : ℕ) → IsBuiltInCondition class 0
        → Does failing_words routine_credit (failing_routine setting.at) (class ∷ []) (signal context class [] around z)

    abbrev pub FailingWithDoes : Type 0
    FailingWithDoes =
        (class : ℕ) (v : Value) (word : ℕ) → IsBuiltInCondition class 1 → WordIs w word v
        → Does failing_words routine_credit (failing_with_routine setting.at) (class ∷ word ∷ []) (signal context class (v ∷ []) around z)

    abbrev pub DomainDoes : Type 0
    DomainDoes =
        (v : Value) (expected word : ℕ) → expected < built_in_classes → WordIs w word v
        → Does failing_words routine_credit (domain_routine setting.at) (word ∷ expected ∷ []) (signal_domain_error context (signal context) v expected around z)

    -- ---- applications

    -- a value to values that were lent
    abbrev pub FunctionDoes : Type 0
    FunctionDoes =
        (f : Value) (vs : List Value) (word address : ℕ) → WordIs w word f → ArgumentsLent setting w y.arena address vs
        → Does applying_words (applying_credit (length vs)) (function_routine setting.at) (word ∷ length vs ∷ address ∷ [])
        (apply_value context (signal context) f vs around z)

    -- a value to the elements of a list
    abbrev pub ApplyDoes : Type 0
    ApplyDoes =
        (f list : Value) (word list_word : ℕ) → WordIs w word f → WordIs w list_word list
        → Does apply_words apply_credit (apply_routine setting.at) (word ∷ list_word ∷ []) (mean_apply context f list around z)

    abbrev pub GenericDoes : Type 0
    GenericDoes =
        (g : GenericRow) (vs : List Value) (generic address : ℕ) → GenericAt setting generic g → HasSymbol setting g.name.0 → ArgumentsLent setting w y.arena address vs
        → Does generic_words (generic_credit (length vs)) (generic_routine setting.at) (generic ∷ length vs ∷ address ∷ [])
        (apply_generic_row context (signal context) (Some g) vs around z)

    -- a chain, a level below: the words of its application are charged there
    abbrev pub ChainDoes : Type 0
    ChainDoes =
        (g : GenericRow) (c : Chain) (vs : List Value) (chain address : ℕ) → ChainAt setting chain c → ChainTakes setting (length vs) c → (c.primary ≡ [] → ⊥)
        → ArgumentsLent setting w y.arena address vs
        → Does entry_words chain_credit (chain_routine setting.at) (chain ∷ length vs ∷ address ∷ [])
        (apply_chain context (signal context) g (Some c) vs around z)

    -- the rest of the chain of a method's call, which is none where the method was called by its name
    abbrev pub NextDoes : Type 0
    NextDoes =
        (called_as : Option Called) (chain count address : ℕ)
        → MethodHeld setting w y.arena false (as_registers (chain ∷ count ∷ address ∷ [])) (Some 0) called_as
        → MethodThere setting w y.arena (as_registers (chain ∷ count ∷ address ∷ [])) (Some 0) called_as
        → Does next_words next_credit (next_routine setting.at) (chain ∷ count ∷ address ∷ []) (mean_next context called_as around z)

    -- a level is judged: whatever it returns, there is one, and the site is as it was stored
    pub record LevelThere (q : MidOutcome) : Type 0 where
      pub word : ℕ
      pub end : q.end ≡ returns word
      pub world : WorldKept setting w w z z y q.state
      pub back : Around setting level_credit z z y q.state
      pub site : SiteStored setting around y → SiteStored setting around q.state

    abbrev pub LevelDoes : Type 0
    LevelDoes =
        CallBegins setting rs valid level_words w around z y
        → Ends setting level_credit (LevelThere (called (code_at setting k turns) (level_routine setting.at) [] y)) ⊥ turns z y
        (descend (below_at setting k) (λ entered. gives nil entered) around z) (called (code_at setting k turns) (level_routine setting.at) [] y)

    -- ---- lists, calls of methods, bindings, kinds

    -- a list was made, and the site is as it was stored
    pub record ListThere (credit : ℕ) (r : FlatEvaluated) (q : MidOutcome) : Type 0 where
      pub returned : Returned setting credit w z y r q
      pub site : SiteStored setting around y → SiteStored setting around q.state

    -- a list of values whose words stand at an address, where there are any; turns are left over for the entry that calls this
    abbrev pub ListDoes : Type 0
    ListDoes =
        (vs : List Value) (address : ℕ) → ((v : Value) (others : List Value) → vs ≡ v ∷ others → ArgumentsGiven setting w y.arena address vs)
        → CallBegins setting rs valid routine_words w around z y
        → Ends setting (list_credit (length vs))
        (ListThere (list_credit (length vs)) (make_list setting.limit vs z (λ v after. gives v after))
        (called (code_at setting k turns) (list_routine setting.at) (address ∷ length vs ∷ []) y))
        ⊥ (turns + entry_spare) z y (make_list setting.limit vs z (λ v after. gives v after))
        (called (code_at setting k turns) (list_routine setting.at) (address ∷ length vs ∷ []) y)

    -- The call of a method is kept: the address of its arguments in the heap is returned. Of the units that its words are charged one is left over, and the
    -- site is as it was stored.
    pub record MethodKept (called_as : Called) (credit : ℕ) (r : FlatEvaluated) (q : MidOutcome) : Type 0 where
      pub outcome : r ≡ gives nil r.state
      pub start : ℕ
      pub end : q.end ≡ returns (start + 8)
      pub places : World
      pub w' : World
      pub added : w' ≡ record places { methods = w.methods ++ (start, called_as) ∷ [] }
      pub world : WorldKept setting w w' z r.state y q.state
      pub back : Around setting credit z r.state y q.state
      pub spared : PaidFrom 0 (charged 1 z) y r.state q.state
      pub site : SiteStored setting around y → SiteStored setting around q.state
      pub frame : r.state.frame ≡ z.frame

    abbrev pub MethodDoes : Type 0
    MethodDoes =
        (c : Called) (chain address : ℕ) → ChainAt setting chain c.rest → ChainTakes setting (length c.arguments) c.rest
        → ArgumentsGiven setting w y.arena address c.arguments → CallBegins setting rs valid routine_words w around z y
        → Ends setting no_words_cost
        (MethodKept c (argument_credit (length c.arguments)) (with_record setting.limit (Some c) true z (λ after. gives nil after))
        (called (code_at setting k turns) (method_routine setting.at) (chain ∷ length c.arguments ∷ address ∷ []) y))
        ⊥ (turns + entry_spare) z y (with_record setting.limit (Some c) true z (λ after. gives nil after))
        (called (code_at setting k turns) (method_routine setting.at) (chain ∷ length c.arguments ∷ address ∷ []) y)

    -- A routine that only looks: it returns a word, and all but the cost is as before. It costs no more than so much.
    pub record Looks (most word : ℕ) (q : MidOutcome) : Type 0 where
      pub end : q.end ≡ returns word
      pub world : WorldKept setting w w z z y q.state
      pub back : Around setting most z z y q.state

    abbrev pub LooksUp : (most routine : ℕ) → List ℕ → (word : ℕ) → Type 0
    LooksUp most routine ws word =
        CallBegins setting rs valid looking_words w around z y
        → Ends setting most (Looks most word (called (code_at setting k turns) routine ws y)) ⊥ turns z y (gives nil z)
        (called (code_at setting k turns) routine ws y)

    abbrev pub IsFunctionDoes : Type 0
    IsFunctionDoes =
        (v : Value) (word : ℕ) → WordIs w word v
        → LooksUp is_function_cost (is_function_routine setting.at) (word ∷ []) (if is_function (fetch z.state v) then 1 else 0)

    abbrev pub ClassDoes : Type 0
    ClassDoes =
        (v : Value) (word : ℕ) → WordIs w word v → LooksUp class_cost (class_routine setting.at) (word ∷ []) (4 * class_of z.state v)

    -- where the value of a dynamic variable is: in the innermost binding of its name, or the outermost one; each binding that is passed costs
    -- at most 100
    abbrev pub binding_of : List ℕ → List (List ℕ × ℕ) → Option ℕ
    binding_of name [] = None
    binding_of name (b ∷ bs) = if bytes_eq name b.0 then Some b.1 else binding_of name bs

    abbrev pub PlaceOfDynamic : ℕ → (address : ℕ) → Option ℕ → Type 0
    PlaceOfDynamic n address None = address ≡ dynamic_address setting.at n
    PlaceOfDynamic n address (Some i) = slice_get w.boxes i ≡ Some (on_stack address)

    abbrev pub BindingDoes : Type 0
    BindingDoes =
        (n : ℕ) → HasDynamic setting n
        → (address : ℕ) × PlaceOfDynamic n address (binding_of (text setting.names n) around.bindings)
        × LooksUp (150 + 100 * passed (λ (b : List ℕ × ℕ). bytes_eq (text setting.names n) b.0) around.bindings) (binding_routine setting.at)
        (dynamic_address setting.at n ∷ []) address

-- **all routines**, at k levels and with so many turns
pub record RoutinesDo (setting : Setting) (k turns : ℕ) (rs valid : List Standing) (w : World) (around : DynamicContext) (z : FlatState) (y : MidState) : Type 0 where
  pub transfer : TransferDoes setting k turns rs valid w around z y
  pub leave : LeaveDoes setting k turns rs valid w around z y
  pub throw : ThrowDoes setting k turns rs valid w around z y
  pub continue : ContinueDoes setting k turns rs valid w around z y
  pub raise : RaiseDoes setting k turns rs valid w around z y
  pub signal : SignalDoes setting k turns rs valid w around z y
  pub pending : PendingDoes setting k turns rs valid w around z y
  pub failing : FailingDoes setting k turns rs valid w around z y
  pub failing_with : FailingWithDoes setting k turns rs valid w around z y
  pub domain : DomainDoes setting k turns rs valid w around z y
  pub function : FunctionDoes setting k turns rs valid w around z y
  pub apply : ApplyDoes setting k turns rs valid w around z y
  pub generic : GenericDoes setting k turns rs valid w around z y
  pub chain : ChainDoes setting k turns rs valid w around z y
  pub next : NextDoes setting k turns rs valid w around z y
  pub level : LevelDoes setting k turns rs valid w around z y
  pub list : ListDoes setting k turns rs valid w around z y
  pub method : MethodDoes setting k turns rs valid w around z y
  pub binding : BindingDoes setting k turns rs valid w around z y
  pub is_function : IsFunctionDoes setting k turns rs valid w around z y
  pub class : ClassDoes setting k turns rs valid w around z y
