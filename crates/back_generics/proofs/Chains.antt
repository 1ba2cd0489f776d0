-- **The routine of chains**: a level below, in the words of the application.
use Rattle.std.proofs.Common.{◌≡◌, inl, ℕ, zero, suc, ◌+◌, ◌*◌, ◌≤◌, true, List, [], ◌∷◌, length, Some, None, refl, sym, ap, ◌∙◌, subst, arith}
use Rattle.std.specs.Prelude.{slice_get, if◌then◌else◌}
use Rattle.lang_meaning.specs.declared.program.GenericRow.{GenericRow}
use Rattle.lang_meaning.specs.Objects.{Chain}
use Rattle.lang_meaning.specs.State.{DynamicContext, Limit, words, unlimited, has_room, room_left, full}
use Rattle.lang_meaning.specs.Values.{Value}
use Rattle.flat_language.specs.FlatMeaning.{flat_meaning_at}
use Rattle.flat_language.specs.FlatSignals.{methods, signal, apply_chain, run_chain}
use Rattle.flat_language.specs.FlatState.{no_environment, FlatState, in_frame, with_stack, charged}
use Rattle.flat_laws.specs.FlatLater.{FlatLater}
use Rattle.flat_laws.proofs.Applied.{signals, chain_runs}
use Rattle.flat_laws.proofs.Later.{later_kept}
use Rattle.mid_code.specs.declared.operation.Counted.TheVariants.{Level}
use Rattle.mid_code.specs.declared.program.MidProcedure.{MidProcedure}
use Rattle.mid_code.specs.State.{MidState, MidOutcome}
use Rattle.back_lowering.specs.ControlWords.{site_address}
use Rattle.back_lowering.specs.Program.{procedure_with, framed, chain_frame, lowered}
use Rattle.back_lowering.specs.RoutineCodes.{chain_code}
use Rattle.back_lowering.specs.Routines.{chain_routine}
use Rattle.back_relation.specs.Setting.{Setting}
use Rattle.back_relation.specs.Placed.{IsPlaced}
use Rattle.back_relation.specs.Chains.{ChainTakes, ChainAt}
use Rattle.back_relation.specs.Room.{entry_words, words_for_handler}
use Rattle.back_relation.specs.Worlds.{World, Standing}
use Rattle.back_relation.specs.Around.{RoomFor, AroundStands, CallBegins, SiteStored}
use Rattle.back_relation.specs.Things.{Things}
use Rattle.back_calling.specs.Lending.{with_lent}
use Rattle.back_relation.specs.Ends.{CallEnds}
use Rattle.back_relation.specs.Forms.{below_at, context_at, code_at}
use Rattle.back_relation.specs.Procedures.{called, ArgumentsLent}
use Rattle.back_relation.specs.RoutineClaims.{chain_credit}
use Rattle.back_relation.proofs.Growth.{grown_later, same_flat}
use Rattle.back_relation.proofs.Straight.{things_units}
use Rattle.back_calling.specs.Entering.{BodyComes}
use Rattle.back_calling.proofs.Entered.{levels_entered, no_level_ends}
use Rattle.back_calling.proofs.Growing.{tasks_below}
use Rattle.back_calling.proofs.Numbers.{numbers_law}
use Rattle.back_calling.proofs.Units.{calls_charged, calls_recounted}
use Rattle.back_calling.proofs.Applied.{called_grows}
use Rattle.back_calling.proofs.Charging.{asked, things_charged, around_charged, framed_ends, within_asked}
use Rattle.back_calling.proofs.Levels.{level_there}
use Rattle.back_exits.proofs.Within.{call_less}
use Rattle.back_generics.specs.Methods.{EntriesDo, EntriesBelow, LawOfChains, LawOfLentChains, LawOfChainClaims}
use Rattle.back_generics.proofs.Given.{lent_inside}
use Rattle.back_generics.proofs.Running.{chain_comes}

module _ (setting : Setting) where
  abbrev routine : MidProcedure
  routine = framed chain_frame (procedure_with Level 3 (chain_code setting.at))

  found : IsPlaced setting → slice_get (lowered setting.names setting.at setting.program) (chain_routine setting.at) ≡ Some routine
  found placed = (numbers_law setting).routine 13 routine placed refl

  -- the methods of a chain, a level below
  chain_below : (j : ℕ) (c : Chain) (vs : List Value) (around : DynamicContext) (z : FlatState)
      → below_at setting (suc j) (methods c vs) no_environment around z ≡ run_chain (context_at setting j) (signal (context_at setting j)) c vs around z
  unfolding flat_meaning_at
  chain_below zero c vs around z = refl
  chain_below (suc j) c vs around z = refl

  chain_later : (j : ℕ) (c : Chain) (vs : List Value) (around : DynamicContext) (z : FlatState) → FlatLater z (run_chain (context_at setting j) (signal (context_at setting j)) c vs around z).state
  chain_later j c vs around z =
      (chain_runs {R = FlatLater} {k = later_kept} (context_at setting j) (tasks_below setting j) (signal (context_at setting j))
      (signals {R = FlatLater} {k = later_kept} (context_at setting j) (tasks_below setting j)) c vs around z).grows

  module _ (turns spare : ℕ) (rs valid : List Standing) (w : World) (around : DynamicContext) (y : MidState) (placed : IsPlaced setting) (few : turns + spare ≤ suc setting.turns_each) (c : Chain)
      (vs : List Value) (chain address : ℕ) (at : ChainAt setting chain c) (takes : ChainTakes setting (length vs) c) (some : c.primary ≡ [] → ⊥) (lent : ArgumentsLent setting w y.arena address vs)
      (site : SiteStored setting around y) where
    abbrev size : ℕ
    size = 16 + length vs

    abbrev ws : List ℕ
    ws = chain ∷ length vs ∷ address ∷ []

    abbrev charged_words : FlatState → FlatState
    charged_words z = charged (length vs) (asked size z)

    abbrev cost_inside : ℕ
    cost_inside = 174

    -- where it begins, with its words charged, among which those of the arguments may be: 14 are left besides
    begun :
        (z : FlatState) → Things setting w z y → AroundStands setting w rs valid around z y
        → RoomFor setting.limit (entry_words + 14 + words_for_handler * length around.handlers) (charged_words z).state y
        → has_room setting.limit (z.state.heap + z.state.stack + 0 + size) ≡ true → CallBegins setting rs valid (entry_words + 14) w around (charged_words z) y
    begun z things stands left room = record {
      things = things_units setting (length vs) (things_charged setting (asked size z) things refl refl refl refl refl (within_asked setting size z room));
      around_stands = around_charged setting (charged_words z) refl stands;
      room = left;
    }

    room_of_call :
        (l : Limit) (z : FlatState) → RoomFor l (entry_words + words_for_handler * length around.handlers) z.state y
        → RoomFor l (entry_words + 14 + words_for_handler * length around.handlers) (charged_words z).state y
    room_of_call unlimited z h = tt
    room_of_call (words n) z h = omega (arith, h)

    room_of_lent :
        (l : Limit) (z : FlatState) → RoomFor l (entry_words + words_for_handler * length around.handlers) (with_lent (length vs) z.state) y
        → RoomFor l (entry_words + 14 + words_for_handler * length around.handlers) (charged_words z).state y
    room_of_lent unlimited z h = tt
    room_of_lent (words n) z h = omega (arith, h)

    abbrev Begun : FlatState → Type 0
    Begun z =
        has_room setting.limit (z.state.heap + z.state.stack + 0 + size) ≡ true → CallBegins setting rs valid (entry_words + 14) w around (charged_words z) y

    body_comes : (j : ℕ) → EntriesDo setting j → (z : FlatState)
        → BodyComes setting (code_at setting j setting.turns_each) routine cost_inside (turns + spare) entry_words ws rs valid w around z y
        (run_chain (context_at setting j) (signal (context_at setting j)) c vs around z)
    unfolding chain_code
    body_comes j does z y' here =
        chain_comes setting j does rs valid around vs address setting.turns_each chain (turns + spare) c None None None None None None None [] w z y' (omega arith) few some at takes
        (record { call = here.call; given = inl (lent_inside setting here.words here.from lent) }) (site.0, here.words site_address ∙ site.1, site.2)

    level_runs : (j : ℕ) → EntriesDo setting j → (z : FlatState) → CallBegins setting rs valid (entry_words + 14) w around z y
        → CallEnds setting (cost_inside + 38) (turns + spare) rs valid w around z y (run_chain (context_at setting j) (signal (context_at setting j)) c vs around z)
        (called (code_at setting (suc j) turns) (chain_routine setting.at) ws y)
    level_runs j does z begins =
        levels_entered setting (suc j) turns (chain_routine setting.at) (turns + spare) (entry_words + 14) entry_words cost_inside routine ws rs valid w around z y
        (run_chain (context_at setting j) (signal (context_at setting j)) c vs around z) (found placed) refl refl (omega arith) (grown_later (chain_later j c vs around z)).printed
        (λ ended. let up = (grown_later (chain_later j c vs around z)).units in omega (arith, up)) begins (λ e. absurd (cc e))
        (λ i e.
        let same : j ≡ i = cc e in
        subst
        (λ i. BodyComes setting (code_at setting i setting.turns_each) routine cost_inside (turns + spare) entry_words ws rs valid w around z y (run_chain (context_at setting j) (signal (context_at setting j)) c vs around z))
        same (body_comes j does z))

    chain_does :
        (k : ℕ) (g : GenericRow) (z : FlatState) → EntriesBelow setting k → Things setting w z y → Begun z
        → CallEnds setting chain_credit (turns + spare) rs valid w around z y (apply_chain (context_at setting k) (signal (context_at setting k)) g (Some c) vs around z)
        (called (code_at setting k turns) (chain_routine setting.at) ws y)
    chain_does zero g z does things begins =
        no_level_ends setting turns (chain_routine setting.at) (turns + spare) routine ws w z y y (apply_chain (context_at setting zero) (signal (context_at setting zero)) g (Some c) vs around z) (found placed) refl refl
        (same_flat z) things
    chain_does (suc j) g z does things begins =
        subst (λ r. CallEnds setting chain_credit (turns + spare) rs valid w around z y r code_end) (sym meaning)
        (calls_charged setting {c1 = chain_credit} 0 (omega arith)
        (framed_ends setting 0 size (λ entered. run_chain (context_at setting j) (signal (context_at setting j)) c vs around (charged (length vs) entered)) things.represents.printed
        (called_grows setting (suc j) turns (chain_routine setting.at) ws y)
        (λ room. (
          (chain_later j c vs around (charged_words z)).stack,
          calls_recounted setting {c1 = cost_inside + 38} {m1 = turns + spare} (asked size z) (z.state.units + length vs) (z.state.units + 0) (omega arith) (omega arith)
              (level_runs j (does j refl) (charged_words z) (begins room)),
        ))))
      where
        code_end : MidOutcome
        code_end = called (code_at setting (suc j) turns) (chain_routine setting.at) ws y

        meaning : apply_chain (context_at setting (suc j)) (signal (context_at setting (suc j))) g (Some c) vs around z
            ≡ in_frame setting.limit size (λ entered. run_chain (context_at setting j) (signal (context_at setting j)) c vs around (charged (length vs) entered)) z
        meaning =
            level_there setting j (λ entered. in_frame setting.limit size (λ inner. below_at setting (suc j) (methods c vs) no_environment around (charged (length vs) inner)) entered) around z
            ∙ ap (λ r. if has_room setting.limit (z.state.heap + z.state.stack + 0 + size) then with_stack z.state.stack r
            else record { outcome = full (0 + size) (room_left setting.limit (z.state.heap + z.state.stack)); state = z }) (chain_below j c vs around (charged (length vs) (asked size z)))

pub chains_law : LawOfChains
chains_law setting k turns spare rs valid w around z y placed few does g c vs chain address at takes some lent site begins =
    chain_does setting turns spare rs valid w around y placed few c vs chain address at takes some lent site k g z does begins.things
    (begun setting turns spare rs valid w around y placed few c vs chain address at takes some lent site z begins.things begins.around_stands
    (room_of_call setting turns spare rs valid w around y placed few c vs chain address at takes some lent site setting.limit z begins.room))

pub lent_chains_law : LawOfLentChains
lent_chains_law setting k turns spare placed few does rs valid g c vs chain address w around z y at takes some begins site lent =
    chain_does setting turns spare rs valid w around y placed few c vs chain address at takes some lent site (suc k) g z
    (λ j e. let same : k ≡ j = omega (arith, e) in subst (λ l. EntriesDo setting l) same does) begins.things
    (begun setting turns spare rs valid w around y placed few c vs chain address at takes some lent site z begins.things begins.around_stands
    (room_of_lent setting turns spare rs valid w around y placed few c vs chain address at takes some lent site setting.limit z begins.room))

pub chain_claims_law : LawOfChainClaims
chain_claims_law setting k turns rs valid w around z y placed few does g c vs chain address at takes some lent site begins =
    call_less setting (omega arith) (omega arith) (chains_law setting k turns 0 rs valid w around z y placed (omega (arith, few)) does g c vs chain address at takes some lent site begins)
