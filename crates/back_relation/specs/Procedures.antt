-- **What is to be shown of the bodies and the entries of functions.**
use Rattle.std.specs.Prelude.{◌≡◌, ◌⊎◌, ⊤, ℕ, suc, ◌+◌, ◌-◌, ◌*◌, ◌^◌, ◌<◌, ◌≤◌, true, false, List, [], ◌∷◌, ◌++◌, Option, Some, None, length, map, slice_get, is_some}
use Rattle.lang_meaning.specs.declared.scope.ExitForm.{ExitForm}
use Rattle.lang_meaning.specs.Objects.{Called}
use Rattle.lang_meaning.specs.Signals.{takes}
use Rattle.lang_meaning.specs.State.{DynamicContext}
use Rattle.lang_meaning.specs.Values.{Value}
use Rattle.flat_language.specs.declared.program.FlatProcedure.{FlatProcedure}
use Rattle.flat_language.specs.FlatNodes.{homes, nodes}
use Rattle.flat_language.specs.FlatSignals.{FlatContext, FlatSignals, form, descend, enter, with_boxes}
use Rattle.flat_language.specs.FlatState.{Captured, no_environment, FlatState, FlatAct, in_own_frame, with_slots}
use Rattle.mid_code.specs.Arena.{Arena, stack_from}
use Rattle.mid_code.specs.Meaning.{Context, count}
use Rattle.mid_code.specs.Meaning as mid
use Rattle.mid_code.specs.State.{Registers, with_some, MidState, MidOutcome}
use Rattle.mid_arena.specs.Places.{WordsOf}
use Rattle.mid_arena.specs.Standing.{ValuesAt}
use Rattle.back_lowering.specs.Placement.{entry_of_lambda, body_of_procedure}
use Rattle.back_lowering.specs.Program.{Extra, nothing, its_method, itself, extra_of, body_of, parameter_words}
use Rattle.back_lowering.specs.Sites.{asks_site}
use Rattle.back_relation.specs.Setting.{Setting}
use Rattle.back_relation.specs.Worlds.{World, Plain, Standing}
use Rattle.back_relation.specs.Things.{AreOfKinds, AreMadeBy}
use Rattle.back_relation.specs.Around.{CallBegins, SiteStored}
use Rattle.back_relation.specs.Activation.{ArgumentsKept, SelfHeld, MethodHeld, MethodThere}
use Rattle.back_relation.specs.Ends.{SparingCall, form_credit}
use Rattle.back_relation.specs.Room.{routine_words, entry_words, words_for}
use Rattle.back_relation.specs.Forms.{context_at, code_at, below_at}

-- the procedure of a number is entered with words, with a level or a turn for it
abbrev pub called : Context → (number : ℕ) → List ℕ → MidState → MidOutcome
called c number ws y = with_some (slice_get c.procedures number) (λ p rs x. count c p.counted (mid.enter p ws) x) [] y

-- words as the first registers of an activation
abbrev pub as_registers : List ℕ → Registers
as_registers ws = map (λ w. Some w) ws

-- what a function does in its frame: its variables that have boxes get them, and the body runs in slots of its own
abbrev pub mean_inside : FlatContext → FlatProcedure → List Captured → Option Called → List Value → FlatAct
mean_inside context q captured called vs around z =
    with_boxes context.limit (homes q) z (λ ready.
    in_own_frame (λ inner.
    context.below (form q.body) (record no_environment { captured = captured; method = called }) around (with_slots (homes q) vs inner)) ready)

-- Of the words that are charged for an application these are for its body, and for the words of parameters in its entry; with the others its
-- arguments may have been lent.
abbrev pub body_words : FlatProcedure → ℕ
body_words q = 12 + 16 * nodes q.body

-- with the reserve, so many of them are left where the body begins
abbrev pub body_room : FlatProcedure → ℕ
body_room q = body_words q + routine_words - parameter_words q

-- What is paid of the cost of a body, and of an entry, beside the units, of the first of which something is left. The units of the arguments pay
-- what each of them adds.
abbrev pub body_credit : FlatProcedure → ℕ
body_credit q = form_credit + 100 + 10 * length (homes q)

abbrev pub entry_credit : (arguments : ℕ) → ℕ
entry_credit n = form_credit + 520

module _ (setting : Setting) where
  -- the words that are charged for an application, and the reserve, are enough for the words of parameters in the entry, for the frame of the body
  -- and for what its code lays
  abbrev pub BodyPaid : Extra → FlatProcedure → Type 0
  BodyPaid extra q =
      parameter_words q + (body_of setting.names setting.at setting.program extra q).frame + words_for setting.names setting.program q.body
      ≤ body_words q + routine_words

  -- a function of the program by the number of its entry, and what its body takes behind its variables
  abbrev pub IsFunction : (entry : ℕ) → Extra → FlatProcedure → Type 0
  IsFunction entry extra q =
      ((slice_get setting.program.procedures entry ≡ Some q) × (extra ≡ extra_of setting.names setting.at setting.program entry))
      ⊎ ((p : ℕ) × (slice_get setting.program.lambdas p ≡ Some q) × (entry ≡ entry_of_lambda setting.at p) × (extra ≡ itself))

  -- what it captured: nothing, where a definition made it
  abbrev pub CapturedFits : World → (entry : ℕ) → Extra → FlatProcedure → List Captured → Type 0
  CapturedFits w entry nothing q cs = cs ≡ []
  CapturedFits w entry its_method q cs = cs ≡ []
  CapturedFits w entry itself q cs =
      AreOfKinds q.captured cs
      × ((p : ℕ) (forms : List (Option ExitForm)) → entry ≡ entry_of_lambda setting.at p → slice_get setting.leads.functions p ≡ Some forms
      → AreMadeBy w cs forms)

  -- the words behind those of the variables
  abbrev pub ExtraGiven : World → FlatState → MidState → Extra → FlatProcedure → List Captured → Option Called → List ℕ → Type 0
  ExtraGiven w z y nothing q cs m ws = (m ≡ None) × (ws ≡ [])
  ExtraGiven w z y itself q cs m ws = (m ≡ None) × (length ws ≡ 1) × SelfHeld w z.captured (slice_get ws 0) cs
  ExtraGiven w z y its_method q cs m ws =
      (length ws ≡ 3) × MethodHeld setting w y.arena q.keeps_method (as_registers ws) (Some 0) m
      × MethodThere setting w y.arena (as_registers ws) (Some 0) m

  -- where the body of a function begins: the words of its frame were charged, the reserve is there, its further arguments are a list, and the call
  -- of its method is kept where it has to be
  pub record BodyBegins (rs valid : List Standing) (extra : Extra) (q : FlatProcedure) (cs : List Captured) (called_as : Option Called) (vs : List Value) (ws more : List ℕ) (w : World) (around : DynamicContext) (z : FlatState) (y : MidState) : Type 0 where
    pub call : CallBegins setting rs valid (body_room q) w around z y
    pub variables : WordsOf w.places vs ws
    pub variable_count : length vs ≡ length (homes q)
    pub extras : ExtraGiven w z y extra q cs called_as more
    pub site : asks_site q.body ≡ true → SiteStored setting around y

  -- **the body of a function**, with a level for it and k levels below
  abbrev pub BodyDoes : (k entry : ℕ) → Extra → FlatProcedure → Type 0
  BodyDoes k entry extra q =
      (rs valid : List Standing) (turns : ℕ) (cs : List Captured) (called_as : Option Called) (vs : List Value) (ws more : List ℕ) (w : World) (around : DynamicContext) (z : FlatState) (y : MidState)
      → IsFunction entry extra q → CapturedFits w entry extra q cs → BodyBegins rs valid extra q cs called_as vs ws more w around z y
      → SparingCall setting (body_credit q) setting.turns_each rs valid w around z y
      (mean_inside (context_at setting (suc k)) q cs called_as vs around z)
      (called (code_at setting (suc k) turns) (body_of_procedure setting.at entry) (ws ++ more) y)

  -- the words of values that were lent in a block of the stack
  pub record ArgumentsLent (w : World) (a : Arena) (address : ℕ) (vs : List Value) : Type 0 where
    pub low : stack_from a ≤ address
    pub is_word : address < 2 ^ 32
    pub values : ValuesAt w.places a address vs
    pub plain : (k : ℕ) → k < 4 * length vs → Plain w (address + k)

  -- or they were kept in the heap for a call of a method
  abbrev pub ArgumentsGiven : World → Arena → (address : ℕ) → List Value → Type 0
  ArgumentsGiven w a address vs = ArgumentsLent w a address vs ⊎ ArgumentsKept w address vs

  -- what an entry is given: the function itself, the chain of a method, or 0, how many arguments there are, and where they are
  pub record EntryBegins (rs valid : List Standing) (n : ℕ) (q : FlatProcedure) (cs : List Captured) (called_as : Option Called) (vs : List Value) (self chain address : ℕ) (w : World) (around : DynamicContext) (z : FlatState) (y : MidState) : Type 0 where
    pub call : CallBegins setting rs valid n w around z y
    pub enough : entry_words ≤ n
    pub site : SiteStored setting around y
    pub arguments : ArgumentsGiven w y.arena address vs
    pub takes_so_many : takes (length q.required) (is_some q.rest) (length vs) ≡ true
    pub function_word : SelfHeld w z.captured (Some self) cs
    -- the call of a method is not kept yet
    pub method : MethodHeld setting w y.arena false (as_registers (chain ∷ length vs ∷ address ∷ [])) (Some 0) called_as
    pub method_arguments : (c : Called) → called_as ≡ Some c → c.arguments ≡ vs

  -- only methods are called as methods
  abbrev pub CalledFits : Extra → Option Called → Type 0
  CalledFits nothing m = m ≡ None
  CalledFits its_method m = ⊤
  CalledFits itself m = m ≡ None

  -- **the entry of a function** with k levels and a turn for it: the number of arguments was judged
  abbrev pub EntryDoes : (k turns entry : ℕ) → Extra → FlatProcedure → Type 0
  EntryDoes k turns entry extra q =
      (rs valid : List Standing) (n : ℕ) (wrong : FlatSignals) (cs : List Captured) (called_as : Option Called) (vs : List Value) (self chain address : ℕ) (w : World) (around : DynamicContext) (z : FlatState) (y : MidState)
      → IsFunction entry extra q → CapturedFits w entry extra q cs → CalledFits extra called_as
      → EntryBegins rs valid n q cs called_as vs self chain address w around z y
      → SparingCall setting (entry_credit (length vs)) turns rs valid w around z y
      (descend (below_at setting k) (λ entered. enter (context_at setting k) wrong q cs called_as vs around entered) around z)
      (called (code_at setting k turns) entry (self ∷ chain ∷ length vs ∷ address ∷ []) y)
