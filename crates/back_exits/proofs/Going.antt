-- The landing is stored, and the routine of transfers is called: the transfer leaves the form.
use Rattle.std.proofs.Common.{◌≡◌, ℕ, ◌+◌, ◌*◌, ◌<◌, ◌≤◌, List, [], ◌∷◌, length, Some, refl, sym, ap, ◌∙◌, subst, arith}
use Rattle.std.specs.Prelude.{slice_get}
use Rattle.lang_meaning.specs.State.{Exit, Landing}
use Rattle.lang_meaning.specs.Values.{Value}
use Rattle.lang_meaning.specs.Counts.{unit_cost}
use Rattle.flat_language.specs.FlatState.{FlatState, leaves}
use Rattle.mid_code.specs.Arena.{stack_from, word_in}
use Rattle.mid_code.specs.Meaning.{Context}
use Rattle.mid_code.specs.State.{Registers, End, cuts, no_room, no_level, exhausted, ends, MidState, MidOutcome}
use Rattle.mid_arena.specs.Places.{word_of}
use Rattle.mid_arena.proofs.Growing.{grows_same}
use Rattle.back_lowering.specs.ControlWords.{control_address, serials_address, landing_address}
use Rattle.back_lowering.specs.Routines.{transfer_routine}
use Rattle.back_relation.specs.Setting.{Setting}
use Rattle.back_relation.specs.Placed.{IsPlaced}
use Rattle.back_relation.specs.Room.{routine_words, words_for_handler}
use Rattle.back_relation.specs.Worlds.{World, LandsIn, Standing, record_of_exit}
use Rattle.back_relation.specs.StackWords.{HasWordAt}
use Rattle.back_relation.specs.Around.{AroundStands, CallBegins}
use Rattle.back_relation.specs.Activation.{ActivationStands}
use Rattle.back_relation.specs.Ends.{PaidFrom, LandingIs, ControlBack, WorldKept, Transfers, LeftCall, Because, Returned, Ends, done, left_by, full_there, stopped, few_turns}
use Rattle.back_relation.specs.Forms.{code_at}
use Rattle.back_relation.specs.Procedures.{called}
use Rattle.back_relation.specs.RoutineClaims.{routine_credit}
use Rattle.back_relation.specs.Cuts.{boxes_cut}
use Rattle.back_relation.specs.Starts.{Start, LeftFrom, EndsAt}
use Rattle.back_relation.specs.Stores.{stores}
use Rattle.back_relation.proofs.Activations.{activation_later}
use Rattle.back_relation.proofs.Cuts.{words_fewer}
use Rattle.back_relation.proofs.Starts.{room_after}
use Rattle.back_relation.proofs.Windows.{stored_elsewhere}
use Rattle.back_relation.proofs.Worlds.{Same, around_again}
use Rattle.back_relation.proofs.Boxes.{stack_stays}
use Rattle.back_exits.specs.Going.{world_with}
use Rattle.back_exits.specs.Inside.{around_with}
use Rattle.back_exits.specs.Touching.{Touched, touched, ExitsMade}
use Rattle.back_exits.proofs.Inside.{world_both, method_shallower, exits_of, activation_with}
use Rattle.back_exits.proofs.Leaving.{AreControls, controls_touch, controls_aligned, controls_differ}
use Rattle.back_exits.proofs.Puts.{of_control, control_stands}
use Rattle.back_exits.proofs.Touching.{world_touched, stored_from}
use Rattle.back_exits.proofs.Words.{control_lent, control_there, control_of}
use Rattle.back_exits.specs.Cleanups.{TransferGoes}
use Rattle.back_exits.proofs.Calls.{Passes}
use Rattle.back_exits.proofs.Outside.{Came, from_came, left_outside}

module _ (setting : Setting) (placed : IsPlaced setting) (k : ℕ) (a : Start setting) (goes : TransferGoes setting k a.turns) {credit : ℕ} {w : World} {z : FlatState} {g : Registers} {y : MidState}
    (came : Came setting a credit w z g y) {valid : List Standing} {exits : List Exit} (around_stands : AroundStands setting w a.rs valid (around_with exits a.around) z y)
    (outer : (i : ℕ) (r : Standing) → record_of_exit i exits valid ≡ Some r → record_of_exit i a.around.exits a.valid ≡ Some r)
    (enough_words : routine_words ≤ a.n) (e : ℕ) (v : Value) (landing : Landing) (target : Standing) (word landing_word : ℕ)
    (is : word_of w.places v ≡ Some word) (valid_target : record_of_exit e exits valid ≡ Some target) (landing_is : LandingIs setting landing_word landing)
    (lands : LandsIn (slice_get w.exit_forms e) landing) (whole paid_before total : ℕ) (g6 : Registers) (size6 : length g6 ≡ length g) (same6 : (i : ℕ) → i < a.d → slice_get g6 i ≡ slice_get g i)
    (paid7 : PaidFrom paid_before a.z a.y z (touched ((landing_address, landing_word) ∷ []) y.arena total y)) (enough : paid_before + routine_credit ≤ whole) (up : a.z.state.units ≤ z.state.units) where
  abbrev c : Context
  c = code_at setting k a.turns

  abbrev ps : List (ℕ × ℕ)
  ps = (landing_address, landing_word) ∷ []

  controls : AreControls ps
  controls = (refl, (omega arith, omega arith), (λ f. absurd (omega (arith, f))), tt)

  abbrev pub y7 : MidState
  y7 = touched ((landing_address, landing_word) ∷ []) y.arena total y

  abbrev w7 : World
  w7 = world_with (boxes_cut (stack_from y.arena) w.boxes) w.exit_forms w

  touching : Touched y.arena y.arena ps (stack_from y.arena)
  touching = record {
    grows = grows_same y.arena came.world.things.represents.arena;
    from = y.arena.heap_to;
    to = y.arena.heap_to;
    touches = controls_touch y.arena.heap_to y.arena.heap_to ps controls;
    low = omega arith;
    high = came.world.things.represents.arena.room;
    before = omega arith;
    after = omega arith;
    least = λ x low high. low;
  }

  made : ExitsMade w z w.exit_forms z.state.exits (stores ps y.arena)
  made =
      let s = came.world.things.serials in
      record {
        drawn = s.0;
        word = stored_elsewhere ps y.arena serials_address (controls_aligned ps controls) (controls_differ ps controls) ∙ s.1;
        count = s.2;
        low = s.3;
        more = omega arith;
        form_count = came.world.things.exit_forms;
        forms_kept = λ i o f. f;
      }

  stored : WorldKept setting w w7 z z y y7
  stored = world_touched setting total z.state.made placed came.world.things touching made

  same7 : Same w w7 y y7
  same7 = record { blocks = refl; size = stored.same_size; stack = stored.stack }

  beside : (x n : ℕ) → (landing_address ≡ x → ⊥) → HasWordAt y x n → HasWordAt y7 x n
  beside x n other f = stored_elsewhere ps y.arena x (refl, tt) (other, tt) ∙ f

  control7 : ControlBack y y7
  control7 = record {
    current = λ n f. beside control_address n (λ same. absurd (omega (arith, same))) f;
    link = λ n f. beside (control_address + 4) n (λ same. absurd (omega (arith, same))) f;
    handlers = λ n f. beside (control_address + 20) n (λ same. absurd (omega (arith, same))) f;
    bindings = λ n f. beside (control_address + 24) n (λ same. absurd (omega (arith, same))) f;
  }

  around7 : AroundStands setting w7 a.rs valid (around_with exits a.around) z y7
  around7 = around_again setting stored.later same7 control7 stored.end stored.more_exits around_stands

  from7 : stack_from y7.arena ≡ stack_from y.arena
  from7 = stored_from ps y.arena

  activation7 : ActivationStands setting a.s a.rs a.valid w7 a.env a.around z g6 y7
  activation7 =
      activation_later setting {d = a.d} stored.later
      (record { blocks = refl; size = refl; stack = record { words = λ x low high plain. refl; bindings = λ i x f low high. stack_stays (stack_from y.arena) i x w.boxes f (let same = from7 in omega (arith, low, same)) } })
      refl (λ n cs f. f) (λ r low. ap word_in (same6 r low)) a.begins.scope
      (activation_with setting {y' = y7} came.activation (exits_of came.activation)
      (method_shallower setting w y y7 a.s.keeps_method g a.s.code.method a.env.method (let same = from7 in omega (arith, same))
      (λ x low plain. stored.stack.words x (let same = from7 in omega (arith, low, same)) low plain) came.activation.method))

  came7 : Came setting a paid_before w7 z g6 y7
  came7 = record {
    world = world_both setting came.world stored (λ x low high. let same = from_came setting a came in omega (arith, low, same));
    registers = record {
      count = size6 ∙ came.registers.count;
      same = λ i low none. same6 i low ∙ came.registers.same i low none;
    };
    blocks = came.blocks;
    charged = let charged = came.charged in let same = from7 in omega (arith, charged, same);
    paid = paid7;
    activation = activation7;
  }

  begins7 : CallBegins setting a.rs valid routine_words w7 (around_with exits a.around) z y7
  begins7 = record {
    things = stored.things;
    around_stands = around7;
    room = room_after setting.limit (routine_words + words_for_handler * length a.around.handlers) (a.n + words_for_handler * length a.around.handlers) a.z z a.y y7 (omega (arith, enough_words)) came7.charged a.begins.call.room;
  }

  landing_stored : HasWordAt y7 landing_address landing_word
  landing_stored =
      let spot = control_of setting came.world.things in
      control_stands 220 refl (omega arith) 16 (of_control 16 landing_word ∷ []) y.arena refl (omega arith) (control_lent setting spot 16 (omega arith) refl)
      (control_there setting spot came.world.things.represents.arena 16 (omega arith))

  abbrev pub q7 : MidOutcome
  q7 = called c (transfer_routine setting.at) (target.address ∷ word ∷ []) y7

  -- ---- a transfer left

  module _ (t : LeftCall setting routine_credit a.rs valid w7 (around_with exits a.around) z y7 (leaves e v landing z) q7) where
    abbrev l : Transfers setting routine_credit a.rs valid w7 (around_with exits a.around) z y7 (leaves e v landing z) q7
    l = t.transfer

    abbrev final : MidOutcome
    final = ends (cuts l.to.outside l.word) g6 q7.state

    of_final : Transfers setting routine_credit a.rs valid w7 (around_with exits a.around) z y7 (leaves e v landing z) final
    of_final = record {
      exit_number = l.exit_number;
      result = l.result;
      landing = l.landing;
      outcome = l.outcome;
      target = l.target;
      valid_target = l.valid_target;
      to = l.to;
      outer = l.outer;
      stop = l.stop;
      word = l.word;
      end = refl;
      blocks = l.blocks;
      w' = l.w';
      of_value = l.of_value;
      world = l.world;
      charged = l.charged;
      paid = l.paid;
      pending = l.pending;
      landing_word = l.landing_word;
      landing_stands = l.landing_stands;
      landing_is = l.landing_is;
      lands = l.lands;
    }

    from_cut : stack_from y7.arena ≤ stack_from q7.state.arena
    from_cut =
        let fewer = words_fewer (length y7.arena.memory) l.to.address y7.arena.blocks q7.state.arena.blocks l.blocks in
        let size = l.world.same_size in
        omega (arith, fewer, size)

    activation_cut : ActivationStands setting a.s a.rs a.valid l.w' a.env a.around z g6 q7.state
    activation_cut =
        activation_later setting {d = a.d} l.world.later
        (record {
          blocks = refl;
          size = refl;
          stack = record { words = λ x low high plain. refl; bindings = λ i x f low high. l.world.stack.bindings i x f (let from = from_cut in omega (arith, low, from)) low };
        })
        refl (λ n cs f. f) (λ r low. refl) a.begins.scope
        (activation_with setting {y' = q7.state} activation7 (exits_of activation7)
        (method_shallower setting w7 y7 q7.state a.s.keeps_method g6 a.s.code.method a.env.method from_cut
        (λ x low plain. l.world.stack.words x (let from = from_cut in omega (arith, low, from)) low plain) activation7.method))

    pub went : LeftFrom setting whole a a.d (leaves e v landing z) final
    unfolding of_final
    went =
        left_outside setting a came7 whole {q = final} (omega (arith, enough)) of_final (outer l.exit_number l.target l.valid_target) t.transfer.charged (record { count = refl; same = λ i low none. refl })
        {own = a.s.code.exits} {count = a.s.flat.exits} {forms = a.s.exits.own} {numbers = a.env.exits} {exits = a.around.exits} activation_cut

  -- **the transfer goes on**
  pub transfer_passes : (p : MidOutcome) → ((last : End) → Passes last → q7.end ≡ last → p ≡ ends last g6 q7.state) → EndsAt setting whole a (leaves e v landing z) p
  transfer_passes p so = by (goes a.rs valid w7 (around_with exits a.around) z y7 e v landing target word landing_word valid_target is landing_stored landing_is lands begins7)
    where
      stop_passes : (o : End) → Because setting (leaves e v landing z) o → Passes o
      stop_passes (no_room asked left) h = tt
      stop_passes no_level h = tt
      stop_passes exhausted h = tt
      stop_passes o h = absurd h

      by : Ends setting (routine_credit + unit_cost) (Returned setting routine_credit w7 z y7 (leaves e v landing z) q7) (LeftCall setting routine_credit a.rs valid w7 (around_with exits a.around) z y7 (leaves e v landing z) q7) a.turns z y7 (leaves e v landing z) q7
          → EndsAt setting whole a (leaves e v landing z) p
      by (done r) = absurd (cc r.outcome)
      by (left_by t) =
          subst (λ q. EndsAt setting whole a (leaves e v landing z) q) (sym (so (cuts t.transfer.to.outside t.transfer.word) tt t.transfer.end)) (left_by (went t))
      by (full_there f) = absurd (cc f.outcome)
      by (stopped h) =
          subst (λ q. EndsAt setting whole a (leaves e v landing z) q) (sym (so q7.end (stop_passes q7.end h.because) refl))
          (stopped (record { because = h.because; printed = h.printed; paid = λ ended. omega (arith, came7.paid, enough, h.paid ended) }))
      by (few_turns h) = let size = came7.world.same_size in few_turns (omega (arith, h, size, up))
