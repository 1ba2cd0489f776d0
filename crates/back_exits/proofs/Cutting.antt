-- A cut to the record of an exit of the activation: what is left behind it.
use Rattle.std.proofs.Common.{◌≡◌, ℕ, suc, ◌+◌, ◌<◌, ◌≤◌, Bool, true, false, List, [], ◌∷◌, ◌++◌, length, Option, Some, refl, sym, ap, ◌∙◌, subst, arith}
use Rattle.std.specs.Prelude.{◌==◌, ◌&&◌, ◌||◌, if◌then◌else◌, slice_get, slice_set}
use Rattle.std.proofs.lemmas.Bool.{eqb-true}
use Rattle.std.proofs.Math.ListN.{length-set}
use Rattle.lang_meaning.specs.State.{Exit, Landing, at_segment}
use Rattle.lang_meaning.specs.Values.{Value}
use Rattle.flat_language.specs.FlatSignals.{search}
use Rattle.flat_language.specs.FlatState.{FlatState, FlatEvaluated, charged, leaves}
use Rattle.mid_code.specs.Arena.{Arena, Block, is_open, lent_from, stack_from, outside_of, blocks_from, with_blocks}
use Rattle.mid_code.specs.Meaning.{Context, cut, exec}
use Rattle.mid_code.specs.MidCode.{cut_to, code_of}
use Rattle.mid_code.specs.State.{Registers, register, cuts, ends, MidState, with_arena, with_some, with_register}
use Rattle.mid_code.specs.State.{charged as mid_charged}
use Rattle.mid_arena.specs.Places.{word_of}
use Rattle.mid_arena.specs.Standing.{ArenaStands}
use Rattle.mid_arena.specs.Growing.{Grows}
use Rattle.mid_arena.proofs.Lists.{set_elsewhere}
use Rattle.mid_arena.proofs.Memory.{grows_with_blocks}
use Rattle.mid_arena.proofs.Growing.{spot_below, spot_stands}
use Rattle.mid_arena.proofs.Registers.{register_here, register_beside}
use Rattle.mid_arena.proofs.Running.{StepsTo, RunsTo, and_then, and_ends, constant_falls, store_falls, address_above}
use Rattle.back_lowering.specs.ControlWords.{serials_address, landing_address}
use Rattle.back_lowering.specs.Records.{landing_kept}
use Rattle.back_lowering.specs.Steps.{Steps}
use Rattle.back_relation.specs.Setting.{Setting, control_spot}
use Rattle.back_relation.specs.Placed.{IsPlaced}
use Rattle.back_relation.specs.Worlds.{World, LandsIn, Standing, IsIn, is_cleanup, Links, record_of_exit, first_stop}
use Rattle.back_relation.specs.StackWords.{HasWordAt}
use Rattle.back_relation.specs.Things.{Things}
use Rattle.back_relation.specs.Activation.{ActivationStands}
use Rattle.back_relation.specs.Ends.{WorldKept}
use Rattle.back_relation.specs.Cuts.{boxes_cut}
use Rattle.back_relation.specs.Starts.{Start, LeftFrom}
use Rattle.back_relation.specs.Stores.{stores}
use Rattle.back_relation.proofs.Activations.{activation_later, SameBelow}
use Rattle.back_relation.proofs.Straight.{world_units, things_units}
use Rattle.back_relation.proofs.Windows.{stored_elsewhere}
use Rattle.back_relation.proofs.Worlds.{Same}
use Rattle.back_relation.proofs.Cuts.{words_fewer}
use Rattle.back_relation.proofs.Boxes.{stack_stays}
use Rattle.back_exits.specs.Going.{world_with}
use Rattle.back_exits.specs.Inside.{around_at}
use Rattle.back_exits.specs.Touching.{Touched, touched, ExitsMade}
use Rattle.back_exits.proofs.Exits.{found_record}
use Rattle.back_exits.proofs.Inside.{world_both, method_shallower, exits_of, activation_with}
use Rattle.back_exits.proofs.Leaving.{AreControls, controls_touch, controls_aligned, controls_differ}
use Rattle.back_exits.proofs.Puts.{of_control, control_stands}
use Rattle.back_exits.proofs.Touching.{world_touched, stored_from}
use Rattle.back_exits.proofs.Words.{control_lent, control_there, control_of}

-- ---- lists

pub blocks_part : (n p : ℕ) (bs cs : List Block) → blocks_from n bs p ≡ Some cs → (inner : List Block) × (bs ≡ inner ++ cs)
blocks_part n p [] cs f = absurd (cc f)
blocks_part n p (b ∷ bs) cs f = by (is_open b.kind && (lent_from n (b ∷ bs) == p)) f (λ g. blocks_part n p bs cs g)
  where
    by : (t : Bool) → (if t then Some (b ∷ bs) else blocks_from n bs p) ≡ Some cs → (blocks_from n bs p ≡ Some cs → (inner : List Block) × (bs ≡ inner ++ cs)) → (inner : List Block) × (b ∷ bs ≡ inner ++ cs)
    by true g inner = let all : b ∷ bs ≡ cs = cc g in ([], all)
    by false g inner = let part = inner g in (b ∷ part.0, ap (λ l. b ∷ l) part.1)

pub stop_shorter : (t : ℕ) (rs s : List Standing) → first_stop t rs ≡ s → length s ≤ length rs
stop_shorter t [] s f = let same : length s ≡ 0 = ap length (sym f) in omega (arith, same)
stop_shorter t (r ∷ rs) s f = by ((r.address == t) || is_cleanup r.role) f (λ g. stop_shorter t rs s g)
  where
    by : (b : Bool) → (if b then r ∷ rs else first_stop t rs) ≡ s → (first_stop t rs ≡ s → length s ≤ length rs) → length s ≤ suc (length rs)
    by true g inner = let same : length s ≡ suc (length rs) = ap length (sym g) in omega (arith, same)
    by false g inner = omega (arith, inner g)

-- the record of a valid exit is no cleanup's
pub found_role : (rs : List Standing) (p m e : ℕ) (xs : List Exit) (vs : List Standing) (t : Standing) → Links rs p m xs vs → record_of_exit e xs vs ≡ Some t → is_cleanup t.role ≡ false
found_role rs p m e [] [] t l f = absurd (cc f)
found_role rs p m e [] (v ∷ vs) t l f = absurd l
found_role rs p m e (x ∷ xs) [] t l f = absurd l
found_role rs p m e (x ∷ xs) (v ∷ vs) t l f = by (x.number == e) f (λ g. found_role rs v.link x.number e xs vs t l.4 g)
  where
    by : (b : Bool) → (if b then Some v else record_of_exit e xs vs) ≡ Some t → (record_of_exit e xs vs ≡ Some t → is_cleanup t.role ≡ false) → is_cleanup t.role ≡ false
    by true g inner = let is : v ≡ t = cc g in subst (λ (r : Standing). is_cleanup r.role ≡ false) is (ap is_cleanup l.2)
    by false g inner = inner g

-- a search for a valid exit finds it, and charges for each that it passes
pub search_finds :
    (e : ℕ) (v : Value) (landing : Landing) (otherwise : FlatState → FlatEvaluated) (xs : List Exit) (vs : List Standing) (t : Standing) (z : FlatState) → record_of_exit e xs vs ≡ Some t
    → (passed : ℕ) × (1 ≤ passed) × (search (λ (x : Exit). x.number == e) (λ (x : Exit) y. leaves x.number v landing y) otherwise xs z ≡ leaves e v landing (charged passed z))
search_finds e v landing otherwise [] vs t z f = absurd (cc f)
search_finds e v landing otherwise (x ∷ xs) [] t z f = absurd (cc f)
search_finds e v landing otherwise (x ∷ xs) (u ∷ vs) t z f = by (x.number == e) refl f (λ g. search_finds e v landing otherwise xs vs t (charged 1 z) g)
  where
    by : (b : Bool) → (x.number == e) ≡ b → (if b then Some u else record_of_exit e xs vs) ≡ Some t
        → (record_of_exit e xs vs ≡ Some t → (passed : ℕ) × (1 ≤ passed)
        × (search (λ (y : Exit). y.number == e) (λ (y : Exit) s. leaves y.number v landing s) otherwise xs (charged 1 z) ≡ leaves e v landing (charged passed (charged 1 z))))
        → (passed : ℕ) × (1 ≤ passed)
        × ((if b then leaves x.number v landing (charged 1 z) else search (λ (y : Exit). y.number == e) (λ (y : Exit) s. leaves y.number v landing s) otherwise xs (charged 1 z))
        ≡ leaves e v landing (charged passed z))
    by true same g inner = (1, omega arith, ap (λ n. leaves n v landing (charged 1 z)) (eqb-true x.number e same))
    by false same g inner =
        let rest = inner g in
        let sum : z.state.units + 1 + rest.0 ≡ z.state.units + (1 + rest.0) = omega arith in
        (1 + rest.0, omega arith, rest.2 ∙ ap (λ n. leaves e v landing (record z { state = record z.state { units = n } })) sum)

-- ---- the step

pub cut_ends :
    {c : Context} {regs : Registers} {y : MidState} (b w block word : ℕ) (bs : List Block) → register b regs ≡ Some block → register w regs ≡ Some word
    → blocks_from (length y.arena.memory) y.arena.blocks block ≡ Some bs
    → StepsTo c (cut_to b w) regs y (ends (cuts (outside_of bs) word) regs (with_arena (with_blocks bs y.arena) (mid_charged 16 y)))
unfolding exec with_some
cut_ends {c} {regs} {y} b w block word bs e f g = record {
  same =
      ap (λ o. with_some o (λ i. with_register w (λ n. cut i n)) regs (mid_charged 16 y)) e
      ∙ ap (λ o. with_some o (λ n. cut block n) regs (mid_charged 16 y)) f
      ∙ ap (λ o. with_some o (λ cs rs' x. ends (cuts (outside_of cs) word) rs' (with_arena (with_blocks cs x.arena) x)) regs (mid_charged 16 y)) g;
}

-- ---- **control words are stored, and blocks end by a cut**

module _ (setting : Setting) (placed : IsPlaced setting) {w : World} {z : FlatState} {y : MidState} (t : Things setting w z y) (p : ℕ) (bs : List Block)
    (found : blocks_from (length y.arena.memory) y.arena.blocks p ≡ Some bs) (ps : List (ℕ × ℕ)) (controls : AreControls ps) (total : ℕ) where
  abbrev pub arena_cut : Arena
  arena_cut = with_blocks bs y.arena

  abbrev pub state_cut : MidState
  state_cut = touched ps arena_cut total y

  abbrev pub world_then : World
  world_then = world_with (boxes_cut (stack_from arena_cut) w.boxes) w.exit_forms w

  stands : ArenaStands y.arena
  stands = t.represents.arena

  grows : Grows y.arena arena_cut
  grows = let part = blocks_part (length y.arena.memory) p y.arena.blocks bs found in grows_with_blocks part.0 bs stands part.1

  pub from_before : stack_from y.arena ≤ stack_from arena_cut
  from_before = let fewer = words_fewer (length y.arena.memory) p y.arena.blocks bs found in omega (arith, fewer)

  gives : Touched y.arena arena_cut ps (stack_from arena_cut)
  gives = record {
    grows = grows;
    from = y.arena.heap_to;
    to = y.arena.heap_to;
    touches = controls_touch y.arena.heap_to y.arena.heap_to ps controls;
    low = omega arith;
    high = stands.room;
    before = from_before;
    after = omega arith;
    least = λ x low high. high;
  }

  made : ExitsMade w z w.exit_forms z.state.exits (stores ps arena_cut)
  made =
      let s = t.serials in
      let low = spot_below stands (control_of setting t) in
      record {
        drawn = s.0;
        word =
            stored_elsewhere ps arena_cut serials_address (controls_aligned ps controls) (controls_differ ps controls) ∙ grows.words serials_address (omega (arith, low)) ∙ s.1;
        count = s.2;
        low = s.3;
        more = omega arith;
        form_count = t.exit_forms;
        forms_kept = λ e o f. f;
      }

  pub world_cut_so : WorldKept setting w world_then z z y state_cut
  world_cut_so = world_touched setting total z.state.made placed t gives made

  pub same_cut : Same w world_then state_cut state_cut
  same_cut = record {
    blocks = refl;
    size = refl;
    stack = record {
      words = λ x low high plain. refl;
      bindings = λ i x e low high. stack_stays (stack_from arena_cut) i x w.boxes e (let same = stored_from ps arena_cut in omega (arith, low, same));
    };
  }

-- ---- **an own exit is left at once**

module _ (setting : Setting) (placed : IsPlaced setting) (c : Context) (a : Start setting) (e : ℕ) (v : Value) (word i record_register : ℕ) (target : Standing) (outer : List Standing)
    (there : a.d + 3 ≤ length a.regs) (in_register : register a.d a.regs ≡ Some word) (of_value : word_of a.w.places v ≡ Some word) (below : record_register < a.d)
    (held : register record_register a.regs ≡ Some target.address) (valid : record_of_exit e a.around.exits a.valid ≡ Some target) (stop : first_stop target.address a.rs ≡ target ∷ outer)
    (lands : LandsIn (slice_get a.w.exit_forms e) (at_segment i)) (passed : ℕ) (some : 1 ≤ passed) where
  abbrev steps : Steps
  steps = landing_kept (a.d + 1) i ++ (cut_to record_register a.d ∷ [])

  abbrev g1 : Registers
  g1 = slice_set (slice_set a.regs (a.d + 1) (Some i)) (a.d + 1 + 1) (Some 0)

  pub among : IsIn target a.rs
  among = found_record a.rs (around_at setting a).link a.z.state.exits e a.around.exits a.valid target (around_at setting a).links valid

  block_of : blocks_from (length a.y.arena.memory) a.y.arena.blocks target.address ≡ Some ((around_at setting a).records target among).block.blocks
  block_of = ((around_at setting a).records target among).block.found

  abbrev bs : List Block
  bs = ((around_at setting a).records target among).block.blocks

  abbrev ps : List (ℕ × ℕ)
  ps = (landing_address, i) ∷ []

  controls : AreControls ps
  controls = (refl, (omega arith, omega arith), (λ f. absurd (omega (arith, f))), tt)

  abbrev total : ℕ
  total = a.y.cost + 6 + 6 + 8 + 16

  abbrev y2 : MidState
  y2 = touched ps (with_blocks bs a.y.arena) total a.y

  abbrev w2 : World
  w2 = world_with (boxes_cut (stack_from (with_blocks bs a.y.arena)) a.w.boxes) a.w.exit_forms a.w

  abbrev z2 : FlatState
  z2 = charged passed a.z

  things2 : Things setting a.w z2 a.y
  things2 = things_units setting passed a.begins.call.things

  world2 : WorldKept setting a.w w2 z2 z2 a.y y2
  world2 = world_cut_so setting placed things2 target.address bs block_of ps controls total

  world : WorldKept setting a.w w2 a.z z2 a.y y2
  world = world_both setting (world_units setting passed a.begins.call.things) world2 (λ x low high. low)

  beside : (r : ℕ) (o : Option ℕ) → r < a.d + 1 → register r a.regs ≡ o → register r g1 ≡ o
  beside r o low f =
      register_beside (slice_set a.regs (a.d + 1) (Some i)) (a.d + 1 + 1) r (Some 0) (λ same. omega (arith, same, low))
      ∙ register_beside a.regs (a.d + 1) r (Some i) (λ same. omega (arith, same, low)) ∙ f

  pub runs : RunsTo c (code_of steps) a.regs a.y (ends (cuts (outside_of bs) word) g1 y2)
  runs =
      and_then constant_falls
      (and_then constant_falls
      (and_then
      (store_falls
      (register_beside (slice_set a.regs (a.d + 1) (Some i)) (a.d + 1 + 1) (a.d + 1) (Some 0) (λ same. omega (arith, same))
      ∙ register_here a.regs (a.d + 1) i (omega (arith, there)))
      (register_here (slice_set a.regs (a.d + 1) (Some i)) (a.d + 1 + 1) 0 (let size = length-set a.regs (a.d + 1) (Some i) in omega (arith, there, size)))
      (address_above 0 landing_address landing_address (omega arith) (omega arith)) (control_lent setting (control_of setting a.begins.call.things) 16 (omega arith) refl))
      (and_ends tt
      (cut_ends record_register a.d target.address word bs (beside record_register (Some target.address) (omega (arith, below)) held) (beside a.d (Some word) (omega arith) in_register)
      (ap (λ n. blocks_from n a.y.arena.blocks target.address) (length-set a.y.arena.memory _ (Some i)) ∙ block_of)))))

  landing_word : HasWordAt y2 landing_address i
  landing_word =
      let spot = spot_stands a.y.arena (with_blocks bs a.y.arena) (control_spot setting) refl refl refl (omega arith) (control_of setting a.begins.call.things) in
      let part = blocks_part (length a.y.arena.memory) target.address a.y.arena.blocks bs block_of in
      let g : Grows a.y.arena (with_blocks bs a.y.arena) = grows_with_blocks part.0 bs a.begins.call.things.represents.arena part.1 in
      control_stands 220 refl (omega arith) 16 (of_control 16 i ∷ []) (with_blocks bs a.y.arena) refl (omega arith) (control_lent setting spot 16 (omega arith) refl) (control_there setting spot g.heap.stands 16 (omega arith))

  same_below : SameBelow a.d a.regs g1
  same_below r low = beside r _ (omega (arith, low)) refl

  activation : ActivationStands setting a.s a.rs a.valid w2 a.env a.around z2 g1 y2
  activation =
      activation_later setting {d = a.d} world2.later (same_cut setting placed things2 target.address bs block_of ps controls total) refl (λ n cs f. f) same_below a.begins.scope
      (activation_with setting {y' = y2} a.begins.activation (exits_of a.begins.activation)
      (method_shallower setting a.w a.y y2 a.s.keeps_method a.regs a.s.code.method a.env.method
      (let from = from_before setting placed things2 target.address bs block_of ps controls total in let after = stored_from ps (with_blocks bs a.y.arena) in omega (arith, from, after))
      (λ x low plain. world2.stack.words x (let from = from_before setting placed things2 target.address bs block_of ps controls total in let after = stored_from ps (with_blocks bs a.y.arena) in omega (arith, low, from, after)) low plain)
      a.begins.activation.method))

  outside_is : outside_of bs ≡ target.outside
  outside_is = by bs ((around_at setting a).records target among).block.count
    where
      by : (cs : List Block) → length cs ≡ target.outside + 1 → outside_of cs ≡ target.outside
      by [] h = absurd (omega (arith, h))
      by (b ∷ cs) h = omega (arith, h)

  pub left_at_once : {credit : ℕ} → LeftFrom setting credit a a.d (leaves e v (at_segment i) z2) (ends (cuts (outside_of bs) word) g1 y2)
  left_at_once = record {
    transfer = record {
      exit_number = e;
      result = v;
      landing = at_segment i;
      outcome = refl;
      target = target;
      valid_target = valid;
      to = target;
      outer = outer;
      stop = stop;
      word = word;
      end = ap (λ n. cuts n word) outside_is;
      blocks = block_of;
      w' = w2;
      of_value = of_value;
      world = world;
      charged = let room = a.begins.call.things.represents.arena.room in omega (arith, room);
      paid = let shorter = stop_shorter target.address a.rs (target ∷ outer) stop in omega (arith, shorter, some);
      pending = λ f. absurd (cc (sym f ∙ found_role a.rs (around_at setting a).link a.z.state.exits e a.around.exits a.valid target (around_at setting a).links valid));
      landing_word = i;
      landing_stands = landing_word;
      landing_is = refl;
      lands = lands;
    };
    activation = activation;
    registers = record {
      count = length-set (slice_set a.regs (a.d + 1) (Some i)) (a.d + 1 + 1) (Some 0) ∙ length-set a.regs (a.d + 1) (Some i);
      same = λ r low none.
          set_elsewhere (slice_set a.regs (a.d + 1) (Some i)) (a.d + 1 + 1) r (Some 0) (λ f. omega (arith, f, low))
          ∙ set_elsewhere a.regs (a.d + 1) r (Some i) (λ f. omega (arith, f, low));
    };
  }
