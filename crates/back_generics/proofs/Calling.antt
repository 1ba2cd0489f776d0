-- A method is called, and the code goes on with its result: something is left of the first unit of the method.
use Rattle.std.proofs.Common.{◌≡◌, ◌⊎◌, inl, inr, ℕ, ◌+◌, ◌*◌, ◌<◌, ◌≤◌, false, List, [], ◌∷◌, length, Option, Some, None, refl, sym, ap, ◌∙◌, subst, arith}
use Rattle.std.specs.Prelude.{slice_set, if◌then◌else◌}
use Rattle.std.proofs.lemmas.Bool.{cases_lt}
use Rattle.lang_meaning.specs.Objects.{Called}
use Rattle.lang_meaning.specs.State.{DynamicContext}
use Rattle.lang_meaning.specs.Values.{Value, nil}
use Rattle.flat_language.specs.FlatSignals.{with_some, descend, enter, signal, apply_procedure}
use Rattle.flat_language.specs.FlatState.{FlatState, FlatEvaluated, gives, go_on, charged}
use Rattle.mid_code.specs.Law.{Grown}
use Rattle.mid_code.specs.Meaning.{Context, exec_step}
use Rattle.mid_code.specs.State.{Registers, register, MidState, MidOutcome, Next}
use Rattle.mid_code.specs.State.{charged as mid_charged, go_on as mid_go_on}
use Rattle.mid_arena.specs.Places.{word_of}
use Rattle.mid_arena.specs.Standing.{ValuesAt}
use Rattle.back_lowering.specs.Program.{nothing, its_method, extra_of}
use Rattle.back_lowering.specs.Steps.{call, call_number}
use Rattle.back_relation.specs.Setting.{Setting}
use Rattle.back_relation.specs.Chains.{MethodTakes, ChainTakes, ChainAt}
use Rattle.back_relation.specs.Room.{entry_words}
use Rattle.back_relation.specs.Worlds.{World, Later, Plain, Standing}
use Rattle.back_relation.specs.Around.{CallBegins, SiteStored}
use Rattle.back_relation.specs.Ends.{WorldKept, Around, Returned, CallEnds}
use Rattle.back_relation.specs.Forms.{context_at, code_at, below_at}
use Rattle.back_relation.specs.Activation.{ArgumentsKept, ArgumentsHeld, in_heap, on_stack, MethodHeld}
use Rattle.back_relation.specs.Procedures.{called, as_registers, ArgumentsGiven, entry_credit}
use Rattle.back_relation.specs.Starts.{FlatGrown}
use Rattle.back_relation.proofs.Straight.{world_cost, around_cost, things_units}
use Rattle.back_calling.specs.Calling.{WordsIn}
use Rattle.back_calling.proofs.Formed.{call_comes, call_number_comes}
use Rattle.back_calling.proofs.Inner.{calls_then_law}
use Rattle.back_calling.proofs.Units.{begins_recounted}
use Rattle.back_calling.proofs.Applied.{called_grows}
use Rattle.back_exits.proofs.Points.{point_begins}
use Rattle.back_generics.specs.Methods.{EntriesDo}
use Rattle.back_generics.proofs.Given.{given_then}

-- what a method is called as, and the word of the rest of its chain, which is 0 where there is none
abbrev pub CalledBy : (setting : Setting) → (chain : ℕ) → List Value → Option Called → Type 0
CalledBy setting chain vs None = chain ≡ 0
CalledBy setting chain vs (Some c) = ChainAt setting chain c.rest × ChainTakes setting (length vs) c.rest × (c.arguments ≡ vs)

module _ (setting : Setting) (w : World) (y : MidState) (chain address : ℕ) (vs : List Value) where
  arguments_held : (c : Called) → c.arguments ≡ vs → ArgumentsGiven setting w y.arena address vs → ArgumentsHeld w y.arena address c
  arguments_held c same (inl g) =
      on_stack (λ low. subst (λ l. ValuesAt w.places y.arena address l) (sym same) g.values) (subst (λ l. (i : ℕ) → i < 4 * length l → Plain w (address + i)) (sym same) g.plain)
  arguments_held c same (inr kept) = in_heap (subst (λ l. ArgumentsKept w address l) (sym same) kept)

  call_held :
      (m : Option Called) → CalledBy setting chain vs m → ArgumentsGiven setting w y.arena address vs
      → MethodHeld setting w y.arena false (as_registers (chain ∷ length vs ∷ address ∷ [])) (Some 0) m
  call_held None e given = (length vs, address, ap Some e, refl, refl)
  call_held (Some c) h given = record {
    chain = chain;
    arguments = address;
    chain_word = refl;
    count_word = ap (λ l. Some (length l)) (sym h.2);
    arguments_word = refl;
    chain_stands = h.0;
    takes = subst (λ l. ChainTakes setting (length l) c.rest) (sym h.2) h.1;
    held = arguments_held c h.2 given;
    kept = λ e. absurd (cc e);
  }

  same_arguments : (m : Option Called) → CalledBy setting chain vs m → (c : Called) → m ≡ Some c → c.arguments ≡ vs
  same_arguments None e c f = absurd (cc f)
  same_arguments (Some d) h c f = let is : d ≡ c = cc f in subst (λ x. x.arguments ≡ vs) is h.2

module _ (setting : Setting) (k : ℕ) (does : EntriesDo setting k) (rs valid : List Standing) (around : DynamicContext) (vs : List Value) (address : ℕ) where
  -- where a method may be called
  pub record Here (w : World) (z : FlatState) (y : MidState) : Type 0 where
    pub call : CallBegins setting rs valid entry_words w around z y
    pub given : ArgumentsGiven setting w y.arena address vs

  pub here_then :
      {c : ℕ} {w w' : World} {z z' : FlatState} {y y' : MidState} → WorldKept setting w w' z z' y y' → Around setting c z z' y y' → Here w z y → Here w' z' y'
  here_then {c} {w} {w'} {z} {z'} {y} {y'} k a h = record { call = point_begins setting k a h.call; given = given_then setting k a h.given }

  pub here_charged : {w : World} {z : FlatState} {y : MidState} → Here w z y → Here w (charged 1 z) y
  here_charged {z = z} h = record { call = begins_recounted setting (z.state.units + 1) h.call; given = h.given }

  abbrev pub applied : ℕ → Option Called → FlatState → FlatEvaluated
  applied number m z = apply_procedure (context_at setting k) (signal (context_at setting k)) number m vs around z

  method_ends :
      (t number chain : ℕ) (m : Option Called) (w : World) (z : FlatState) (y : MidState) → t ≤ setting.turns_each → MethodTakes setting (length vs) number → CalledBy setting chain vs m → Here w z y
      → SiteStored setting around y
      → CallEnds setting (entry_credit (length vs)) t rs valid w around (charged 1 z) y (applied number m z) (called (code_at setting k t) number (0 ∷ chain ∷ length vs ∷ address ∷ []) y)
  method_ends t number chain m w z y few takes by h site =
      subst (λ r. CallEnds setting (entry_credit (length vs)) t rs valid w around (charged 1 z) y r (called (code_at setting k t) number (0 ∷ chain ∷ length vs ∷ address ∷ []) y))
      (sym (ap (λ o.
      descend (below_at setting k)
      (λ entered. with_some o (λ a y. gives nil y) (λ p. enter (context_at setting k) (signal (context_at setting k)) p [] m vs) around entered) around z) takes.there))
      (does t number its_method takes.method few rs valid entry_words (signal (context_at setting k)) [] m vs 0 chain address w around z y (inl (takes.there, extra)) refl tt
      (record {
        call = h.call;
        enough = omega arith;
        site = site;
        arguments = h.given;
        takes_so_many = takes.takes_so_many;
        function_word = tt;
        method = call_held setting w y chain address vs m by h.given;
        method_arguments = same_arguments setting w y chain address vs m by;
      }))
    where
      extra : its_method ≡ extra_of setting.names setting.at setting.program number
      extra = sym (ap (λ t. if t then its_method else nothing) takes.of_generic)

  -- **a method is called by its number in a register**, and the code goes on
  pub method_then :
      (t number chain to of a0 a1 a2 a3 c2 : ℕ) (m : Option Called) (w : World) (z : FlatState) (y : MidState) (regs : Registers) (f : Value → FlatState → FlatEvaluated) (next : Next)
      → t ≤ setting.turns_each → MethodTakes setting (length vs) number → CalledBy setting chain vs m → Here w z y → SiteStored setting around y → register of regs ≡ Some number
      → WordsIn regs (a0 ∷ a1 ∷ a2 ∷ a3 ∷ []) (0 ∷ chain ∷ length vs ∷ address ∷ [])
      → ((v : Value) (x : FlatState) → FlatGrown x (f v x).state) → ((g : Registers) (x : MidState) → Grown x (next g x).state)
      → ((w' : World) (z' : FlatState) (y' : MidState) (v : Value) (word : ℕ) → Later w w' → Here w' z' y' → word_of w'.places v ≡ Some word
      → CallEnds setting c2 t rs valid w' around z' y' (f v z') (next (slice_set regs to (Some word)) y'))
      → CallEnds setting (entry_credit (length vs) + 64 + c2) t rs valid w around (charged 1 z) y (go_on (applied number m z) f)
      (mid_go_on (exec_step (code_at setting k t) (call_number to of (a0 ∷ a1 ∷ a2 ∷ a3 ∷ [])) regs y) next)
  method_then t number chain to of a0 a1 a2 a3 c2 m w z y regs f next few takes by h site of_number words flat_grown grown rest =
      subst (λ q. CallEnds setting (entry_credit (length vs) + 64 + c2) t rs valid w around (charged 1 z) y (go_on (applied number m z) f) (mid_go_on q next)) same
      (cases (cases_lt (applied number m z).state.state.units (z.state.units + 1)))
    where
      c : Context
      c = code_at setting k t

      arguments : List ℕ
      arguments = a0 ∷ a1 ∷ a2 ∷ a3 ∷ []

      given : List ℕ
      given = 0 ∷ chain ∷ length vs ∷ address ∷ []

      same : exec_step c (call to number arguments) regs y ≡ exec_step c (call_number to of arguments) regs y
      same = call_comes c regs y to number arguments given words ∙ sym (call_number_comes c regs y to number arguments given words of of_number)

      q : MidOutcome
      q = called c number given (mid_charged 64 y)

      cost_grew : y.cost + 64 ≤ q.state.cost
      cost_grew = (called_grows setting k t number given (mid_charged 64 y)).cost

      h1 : Here w z (mid_charged 64 y)
      h1 = here_then (world_cost setting 64 h.call.things) (around_cost setting {credit = 64} z y 64 (omega arith)) h

      continues : (x : Returned setting (entry_credit (length vs) + 64) w (charged 1 z) y (applied number m z) q)
          → CallEnds setting c2 t rs valid x.w' around (applied number m z).state q.state (f x.result (applied number m z).state) (next (slice_set regs to (Some x.word)) q.state)
      continues x = rest x.w' (applied number m z).state q.state x.result x.word x.world.later (here_then x.world x.back (here_charged h)) x.of_value

      cases : ((applied number m z).state.state.units < z.state.units + 1) ⊎ (z.state.units + 1 ≤ (applied number m z).state.state.units)
          → CallEnds setting (entry_credit (length vs) + 64 + c2) t rs valid w around (charged 1 z) y (go_on (applied number m z) f) (mid_go_on (exec_step c (call to number arguments) regs y) next)
      cases (inr more) =
          calls_then_law setting c (entry_credit (length vs)) c2 (entry_credit (length vs) + 64 + c2) t t t to number arguments given rs valid w around (charged 1 z) y regs (applied number m z) f next words
          (things_units setting 1 h.call.things) (omega arith) (omega arith) (omega (arith, more)) flat_grown grown
          (method_ends t number chain m w z (mid_charged 64 y) few takes by h1 site) continues
      cases (inl less) =
          calls_then_law setting c (entry_credit (length vs)) c2 (entry_credit (length vs) + 64 + c2) t (t + 16 * (z.state.units + 1)) t to number arguments given rs valid w around (charged 1 z) y regs (applied number m z) f next words
          (things_units setting 1 h.call.things) (omega arith) (omega arith) (omega arith) flat_grown grown
          (method_ends t number chain m w z (mid_charged 64 y) few takes by h1 site)
          (λ x. let paid = x.back.paid in absurd (omega (arith, paid, cost_grew, less)))
