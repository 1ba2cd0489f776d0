-- What is around inside a control record that was laid, and where the code inside it begins.
use Rattle.std.proofs.Common.{◌≡◌, inl, inr, ℕ, ◌+◌, ◌*◌, ◌<◌, ◌≤◌, Bool, List, [], ◌∷◌, length, Option, Some, None, refl, sym, ap, ◌∙◌, subst, arith}
use Rattle.std.specs.Prelude.{if◌then◌else◌, slice_get}
use Rattle.std.proofs.lemmas.Bool.{eq-eqb, ne_eqb}
use Rattle.lang_meaning.specs.declared.scope.ExitForm.{ExitForm}
use Rattle.lang_meaning.specs.Objects.{Called}
use Rattle.lang_meaning.specs.State.{DynamicContext, Exit, end_exit, Limit, words, unlimited}
use Rattle.lang_meaning.specs.Values.{Value}
use Rattle.flat_language.specs.FlatState.{Captured, FlatEnvironment, FlatState, under}
use Rattle.mid_code.specs.Arena.{Arena, record_of, begin_of, lent_from, left, stack_from, blocks_from, word_in, word_at}
use Rattle.mid_code.specs.State.{Registers, MidState}
use Rattle.mid_arena.specs.Standing.{ArenaStands, ValueAt}
use Rattle.back_lowering.specs.ControlWords.{record_words}
use Rattle.back_lowering.specs.declared.scope.OwnExit.{OwnExit}
use Rattle.back_relation.specs.Setting.{Setting}
use Rattle.back_relation.specs.Room.{words_for_handler}
use Rattle.back_relation.specs.Worlds.{World, Plain, RecordRole, for_cleanup, for_exit, Standing, IsIn, Chain, Links, EndsAtEnd, TagsLand, IsTagged, record_of_exit, record_bytes}
use Rattle.back_relation.specs.StackWords.{RecordAt}
use Rattle.back_relation.specs.Around.{RoomFor, AroundStands}
use Rattle.back_relation.specs.Activation.{FormScope, ScopeStands, ArgumentsHeld, in_heap, ArgumentsThere, MethodHeld, MethodThere, ActivationStands}
use Rattle.back_relation.specs.Activation.{on_stack as arguments_on_stack}
use Rattle.back_relation.specs.Ends.{WorldKept}
use Rattle.back_relation.specs.Forms.{Begins}
use Rattle.back_relation.specs.Starts.{Start}
use Rattle.back_relation.proofs.Activations.{activation_later, SameBelow}
use Rattle.back_relation.proofs.Then.{method_there_again}
use Rattle.back_relation.proofs.Worlds.{Deeper, Same, later_then, plain_later, record_stays, handlers_stay, bindings_stay, links_raise, chain_lower}
use Rattle.back_exits.specs.Inside.{scope_with, environment_with, around_with, ExitsStand, around_at, address_inside, record_inside, LaidAt, IsInnermost, LawOfSurroundings, LawOfBodies}
use Rattle.back_exits.proofs.Steps.{laid_size, laid_from, laid_to, laid_low}

-- worlds one after another, where the stack in between begins no higher than one of the others
pub world_both :
    (setting : Setting) {w w1 w2 : World} {z z1 z2 : FlatState} {y y1 y2 : MidState} → WorldKept setting w w1 z z1 y y1 → WorldKept setting w1 w2 z1 z2 y1 y2
    → ((x : ℕ) → stack_from y.arena ≤ x → stack_from y2.arena ≤ x → stack_from y1.arena ≤ x) → WorldKept setting w w2 z z2 y y2
world_both setting g h between = record {
  later = later_then g.later h.later;
  things = h.things;
  stack = record {
    words = λ x low high plain. h.stack.words x (between x low high) high (plain_later x g.later plain) ∙ g.stack.words x low (between x low high) plain;
    bindings = λ i x e low high. h.stack.bindings i x (g.stack.bindings i x e low (between x low high)) (between x low high) high;
  };
  end = λ n e. h.end n (g.end n e);
  more_exits = omega (arith, g.more_exits, h.more_exits);
  same_size = h.same_size ∙ g.same_size;
}

-- ---- the call of a method, where the arena changes

module _ (setting : Setting) (w : World) (y y' : MidState) where
  value_moves : (x : ℕ) (v : Value) → word_at y'.arena x ≡ word_at y.arena x → ValueAt w.places y.arena x v → ValueAt w.places y'.arena x v
  value_moves x v e at = record { word = at.word; of_value = at.of_value; stands = e ∙ at.stands }

  -- inside, as long as its arguments are there
  pub method_deeper :
      (keeps : Bool) (regs : Registers) (method : Option ℕ) (called : Option Called) → ((x : ℕ) → stack_from y.arena ≤ x → word_at y'.arena x ≡ word_at y.arena x)
      → MethodThere setting w y.arena regs method called → MethodHeld setting w y.arena keeps regs method called → MethodHeld setting w y'.arena keeps regs method called
  method_deeper keeps regs None None same there h = tt
  method_deeper keeps regs None (Some c) same there h = h
  method_deeper keeps regs (Some m) None same there h = h
  method_deeper keeps regs (Some m) (Some c) same there h = record {
    chain = h.chain;
    arguments = h.arguments;
    chain_word = h.chain_word;
    count_word = h.count_word;
    arguments_word = h.arguments_word;
    chain_stands = h.chain_stands;
    takes = h.takes;
    held = by (there h.arguments h.arguments_word) h.held;
    kept = h.kept;
  }
    where
      by : ArgumentsThere w y.arena h.arguments c → ArgumentsHeld w y.arena h.arguments c → ArgumentsHeld w y'.arena h.arguments c
      by (inl k) held = in_heap k
      by (inr low) (in_heap k) = in_heap k
      by (inr low) (arguments_on_stack values plain) =
          arguments_on_stack (λ high i few. value_moves (h.arguments + 4 * i) _ (same (h.arguments + 4 * i) (omega (arith, low.0))) (values low.0 i few)) plain

  -- outside
  pub method_shallower :
      (keeps : Bool) (regs : Registers) (method : Option ℕ) (called : Option Called) → stack_from y.arena ≤ stack_from y'.arena
      → ((x : ℕ) → stack_from y'.arena ≤ x → Plain w x → word_at y'.arena x ≡ word_at y.arena x)
      → MethodHeld setting w y.arena keeps regs method called → MethodHeld setting w y'.arena keeps regs method called
  method_shallower keeps regs None None from same h = tt
  method_shallower keeps regs None (Some c) from same h = h
  method_shallower keeps regs (Some m) None from same h = h
  method_shallower keeps regs (Some m) (Some c) from same h = record {
    chain = h.chain;
    arguments = h.arguments;
    chain_word = h.chain_word;
    count_word = h.count_word;
    arguments_word = h.arguments_word;
    chain_stands = h.chain_stands;
    takes = h.takes;
    held = by h.held;
    kept = h.kept;
  }
    where
      by : ArgumentsHeld w y.arena h.arguments c → ArgumentsHeld w y'.arena h.arguments c
      by (in_heap k) = in_heap k
      by (arguments_on_stack values plain) =
          arguments_on_stack
          (λ high i few.
          value_moves (h.arguments + 4 * i) _ (same (h.arguments + 4 * i) (omega (arith, high)) (plain (4 * i) (omega (arith, few)))) (values (omega (arith, from, high)) i few))
          plain

-- ---- an activation with other exits

pub exits_of :
    {setting : Setting} {s : FormScope} {rs valid : List Standing} {w : World} {env : FlatEnvironment} {around : DynamicContext} {z : FlatState} {regs : Registers} {y : MidState}
    → ActivationStands setting s rs valid w env around z regs y → ExitsStand s.code.exits s.flat.exits s.exits.own env.exits rs valid around.exits w regs
exits_of t = record { exit_count = t.exit_count; flat_count = t.flat_count; reached = t.exits; exit_forms = t.exit_forms }

pub activation_with :
    (setting : Setting) {s : FormScope} {rs valid rs' valid' : List Standing} {w : World} {env : FlatEnvironment} {around : DynamicContext} {z : FlatState} {regs : Registers} {y y' : MidState}
    {own : List OwnExit} {count : ℕ} {forms : List ExitForm} {numbers : List ℕ} {exits : List Exit}
    → ActivationStands setting s rs valid w env around z regs y → ExitsStand own count forms numbers rs' valid' exits w regs
    → MethodHeld setting w y'.arena s.keeps_method regs s.code.method env.method
    → ActivationStands setting (scope_with count forms own s) rs' valid' w (environment_with numbers env) (around_with exits around) z regs y'
activation_with setting t x m = record {
  slot_count = t.slot_count;
  home_count = t.home_count;
  homes = t.homes;
  slots = t.slots;
  exit_count = x.exit_count;
  flat_count = x.flat_count;
  exits = x.reached;
  exit_forms = x.exit_forms;
  kinds = t.kinds;
  made_by = t.made_by;
  self = t.self;
  method = m;
  site = t.site;
}

-- ---- lists of records

pub links_in : (new : Standing) (rs : List Standing) (p m : ℕ) (xs : List Exit) (vs : List Standing) → Links rs p m xs vs → Links (new ∷ rs) p m xs vs
links_in new rs p m [] [] t = tt
links_in new rs p m [] (v ∷ vs) t = t
links_in new rs p m (x ∷ xs) [] t = t
links_in new rs p m (x ∷ xs) (v ∷ vs) t = (t.0, inr t.1, t.2, t.3, links_in new rs v.link x.number xs vs t.4)

ends_behind : (x : Exit) (xs : List Exit) → (x.kind ≡ end_exit → ⊥) → EndsAtEnd xs → EndsAtEnd (x ∷ xs)
ends_behind x [] n e = absurd e
ends_behind x (y ∷ ys) n e = (n, e)

-- ---- what is around

module _ (setting : Setting) (a : Start setting) {units cost : ℕ} {role : RecordRole} {link : ℕ} {w : World} {z : FlatState} {regs : Registers} {y : MidState} (laid : LaidAt setting a units cost role link w z regs y) where
  pub arena_stands : ArenaStands a.y.arena
  arena_stands = a.begins.call.things.represents.arena

  abbrev pub new : Standing
  new = record_inside setting a role

  abbrev pub at : ℕ
  at = address_inside setting a

  pub at_from : stack_from y.arena + 8 ≡ at
  at_from =
      let same = laid.world.same_size in
      let size = laid_size arena_stands laid.room in
      let from = laid_from arena_stands laid.room in
      let here : stack_from y.arena ≡ begin_of (length y.arena.memory) (record_of record_words ∷ a.y.arena.blocks) = ap (begin_of (length y.arena.memory)) laid.blocks in
      omega (arith, same, size, from, here)

  pub at_to : at + 24 ≡ stack_from a.y.arena
  at_to = laid_to arena_stands laid.room

  pub at_low : a.y.arena.heap_to + 8 ≤ at
  at_low = laid_low arena_stands laid.room

  pub words_left : left y.arena + 8 ≡ left a.y.arena
  words_left =
      let from = at_from in
      let to = at_to in
      let low = at_low in
      let same = laid.heap_to in
      omega (arith, from, to, low, same)

  -- the record is found at its address, and the others as before
  blocks_there : (p : ℕ) → blocks_from (length y.arena.memory) y.arena.blocks p ≡ blocks_from (length a.y.arena.memory) (record_of record_words ∷ a.y.arena.blocks) p
  blocks_there p =
      ap (λ n. blocks_from n y.arena.blocks p) laid.world.same_size ∙ ap (λ bs. blocks_from (length a.y.arena.memory) bs p) laid.blocks

  same_address : lent_from (length a.y.arena.memory) (record_of record_words ∷ a.y.arena.blocks) ≡ at
  same_address = ap (λ n. lent_from n (record_of record_words ∷ a.y.arena.blocks)) (sym (laid_size arena_stands laid.room))

  pub found_new : blocks_from (length y.arena.memory) y.arena.blocks at ≡ Some (record_of record_words ∷ a.y.arena.blocks)
  found_new =
      blocks_there at
      ∙ ap (λ t. if t then Some (record_of record_words ∷ a.y.arena.blocks) else blocks_from (length a.y.arena.memory) a.y.arena.blocks at) (eq-eqb _ _ same_address)

  pub found_outside : (p : ℕ) → stack_from a.y.arena ≤ p → blocks_from (length y.arena.memory) y.arena.blocks p ≡ blocks_from (length a.y.arena.memory) a.y.arena.blocks p
  found_outside p low =
      blocks_there p
      ∙ ap (λ t. if t then Some (record_of record_words ∷ a.y.arena.blocks) else blocks_from (length a.y.arena.memory) a.y.arena.blocks p)
      (ne_eqb _ _ (λ e. let same = same_address in let to = at_to in omega (arith, e, same, to, low)))

  -- what stood stands, one block deeper
  pub deeper : Deeper a.w w a.y y
  deeper = record {
    from = let from = at_from in let to = at_to in omega (arith, from, to);
    size = laid.world.same_size;
    blocks = λ p bs low found. found_outside p low ∙ found;
    stack = laid.world.stack;
  }

  new_stands : RecordAt w y new
  new_stands = record {
    block = record { blocks = record_of record_words ∷ a.y.arena.blocks; found = found_new; count = omega arith };
    low = let from = at_from in omega (arith, from);
    high = let to = at_to in let same = laid.world.same_size in omega (arith, to, same);
    plain = λ k few i e. let low = laid.bindings i (at + k) e in let to = at_to in omega (arith, low, to, few);
    kind = laid.kind;
    outer = laid.outer;
    role = laid.role_words;
  }

  records_inside : (r : Standing) → IsIn r (new ∷ a.rs) → RecordAt w y r
  records_inside r (inl e) = subst (λ q. RecordAt w y q) (sym e) new_stands
  records_inside r (inr i) = record_stays laid.world.later deeper r ((around_at setting a).records r i)

  chain_inside : Chain (stack_from y.arena) at (new ∷ a.rs)
  chain_inside =
      let from = at_from in
      let to = at_to in (
        refl,
        omega (arith, from),
        chain_lower (stack_from a.y.arena) (at + record_bytes) (around_at setting a).current a.rs (omega (arith, to)) (around_at setting a).chain,
      )

  -- where the body begins, with what is around it
  module _ {valid' : List Standing} {exits : List Exit} (around_stands : AroundStands setting w (new ∷ a.rs) valid' (around_with exits a.around) z y)
      {own : List OwnExit} {count : ℕ} {forms : List ExitForm} {numbers : List ℕ} (exits_stand : ExitsStand own count forms numbers (new ∷ a.rs) valid' exits w regs) where
    same_below : SameBelow a.d a.regs regs
    same_below r few = ap word_in (laid.same r few)

    kept_functions : (n : ℕ) (cs : List Captured) → under n a.z.captured ≡ Some cs → under n z.captured ≡ Some cs
    kept_functions n cs e = ap (under n) laid.captured ∙ e

    stay : Same a.w w a.y a.y
    stay = record {
      blocks = refl;
      size = refl;
      stack = record { words = λ x low high plain. refl; bindings = λ i x e low high. laid.world.stack.bindings i x e low (let from = deeper.from in omega (arith, low, from)) };
    }

    outer_activation : ActivationStands setting a.s a.rs a.valid w a.env a.around z regs a.y
    outer_activation = activation_later setting {d = a.d} laid.world.later stay laid.frame kept_functions same_below a.begins.scope a.begins.activation

    there : (b : Arena) → stack_from b ≤ stack_from a.y.arena → MethodThere setting w b regs a.s.code.method a.env.method
    there b from =
        method_there_again setting a.y.arena b a.regs regs a.s.code.method a.env.method laid.world.later from
        (λ m e. ap word_in (laid.same (m + 2) (a.begins.scope.method m e).2.0)) a.begins.method_there

    activation_inside : ActivationStands setting (scope_with count forms own a.s) (new ∷ a.rs) valid' w (environment_with numbers a.env) (around_with exits a.around) z regs y
    activation_inside =
        activation_with setting outer_activation exits_stand
        (method_deeper setting w a.y y a.s.keeps_method regs a.s.code.method a.env.method laid.words (there a.y.arena (omega arith)) outer_activation.method)

    pub begins_inside :
        (n m : ℕ) → ScopeStands (scope_with count forms own a.s).code (a.d + n) → 8 + m ≤ a.n → a.d + n < length a.regs
        → Begins setting (new ∷ a.rs) valid' (scope_with count forms own a.s) (a.d + n) m w (environment_with numbers a.env) (around_with exits a.around) z regs y
    begins_inside n m scope enough first = record {
      call = record { things = laid.world.things; around_stands = around_stands; room = by setting.limit a.begins.call.room };
      activation = activation_inside;
      scope = scope;
      method_there = there y.arena deeper.from;
      first = subst (λ k. a.d + n < k) (sym laid.count) first;
    }
      where
        by : (l : Limit) → RoomFor l (a.n + words_for_handler * length a.around.handlers) a.z.state a.y → RoomFor l (m + words_for_handler * length a.around.handlers) z.state y
        by unlimited h = tt
        by (words k) h =
            let fewer = words_left in
            let heap = laid.heap in
            let stack = laid.stack in
            omega (arith, h, fewer, heap, stack, enough)

exit_of_role : (x e : Exit) → for_exit x ≡ for_exit e → x ≡ e
exit_of_role x e same = cc same

no_exit : (e : Exit) → for_cleanup ≡ for_exit e → ⊥
no_exit e same = cc same

module _ (setting : Setting) (a : Start setting) {units cost : ℕ} {w : World} {z : FlatState} {regs : Registers} {y : MidState} where
  pub around_exit :
      {x : Exit} → LaidAt setting a units cost (for_exit x) (address_inside setting a) w z regs y → IsInnermost setting a x w z
      → AroundStands setting w (record_inside setting a (for_exit x) ∷ a.rs) (record_inside setting a (for_exit x) ∷ a.valid) (around_with (x ∷ a.around.exits) a.around) z y
  around_exit {x} laid first =
      let t = around_at setting a in
      record {
        current = address_inside setting a;
        link = address_inside setting a;
        handlers_cell = t.handlers_cell;
        bindings_cell = t.bindings_cell;
        current_word = laid.control.current_word;
        link_word = laid.control.link_word;
        handlers_word = laid.control.handlers_word;
        bindings_word = laid.control.bindings_word;
        chain = chain_inside setting a laid;
        records = λ r i. records_inside setting a laid r i;
        links = (refl, inl refl, refl, first.made, links_in (record_inside setting a (for_exit x)) a.rs t.link x.number a.around.exits a.valid first.links);
        handlers = handlers_stay laid.world.later (deeper setting a laid) a.around.handlers t.handlers_cell t.handlers;
        bindings = bindings_stay laid.world.later (deeper setting a laid) setting a.around.bindings t.bindings_cell t.bindings;
        ends_at_end = ends_behind x a.around.exits first.no_end t.ends_at_end;
        end_record = t.end_record;
        end_valid =
            ap (λ b. if b then Some (record_inside setting a (for_exit x)) else record_of_exit 0 a.around.exits a.valid) (ne_eqb x.number 0 (λ e. let some = first.some in omega (arith, e, some)))
            ∙ t.end_valid;
        end_word = laid.world.end t.end_record.address t.end_word;
        end_form = laid.world.later.exit_forms 0 None t.end_form;
        tags_land = by t;
      }
    where
      by : AroundStands setting a.w a.rs a.valid a.around a.z a.y → TagsLand w (record_inside setting a (for_exit x) ∷ a.rs)
      by t e v (inl same) role tagged =
          let is : x ≡ e = exit_of_role x e (ap (λ (r : Standing). r.role) (sym same) ∙ role) in
          subst (λ (o : Exit). slice_get w.exit_forms o.number ≡ Some None) is (first.unnamed (subst (λ (o : Exit). IsTagged o.kind) (sym is) tagged))
      by t e v (inr i) role tagged = laid.world.later.exit_forms e.number None (t.tags_land e v i role tagged)

  pub around_cleanup :
      LaidAt setting a units cost for_cleanup (around_at setting a).link w z regs y → AroundStands setting w (record_inside setting a for_cleanup ∷ a.rs) a.valid a.around z y
  around_cleanup laid =
      let t = around_at setting a in
      record {
        current = address_inside setting a;
        link = t.link;
        handlers_cell = t.handlers_cell;
        bindings_cell = t.bindings_cell;
        current_word = laid.control.current_word;
        link_word = laid.control.link_word;
        handlers_word = laid.control.handlers_word;
        bindings_word = laid.control.bindings_word;
        chain = chain_inside setting a laid;
        records = λ r i. records_inside setting a laid r i;
        links =
            links_raise (record_inside setting a for_cleanup ∷ a.rs) t.link a.z.state.exits z.state.exits a.around.exits a.valid laid.world.more_exits
            (links_in (record_inside setting a for_cleanup) a.rs t.link a.z.state.exits a.around.exits a.valid t.links);
        handlers = handlers_stay laid.world.later (deeper setting a laid) a.around.handlers t.handlers_cell t.handlers;
        bindings = bindings_stay laid.world.later (deeper setting a laid) setting a.around.bindings t.bindings_cell t.bindings;
        ends_at_end = t.ends_at_end;
        end_record = t.end_record;
        end_valid = t.end_valid;
        end_word = laid.world.end t.end_record.address t.end_word;
        end_form = laid.world.later.exit_forms 0 None t.end_form;
        tags_land = by t;
      }
    where
      by : AroundStands setting a.w a.rs a.valid a.around a.z a.y → TagsLand w (record_inside setting a for_cleanup ∷ a.rs)
      by t e v (inl same) role tagged = absurd (no_exit e (ap (λ (r : Standing). r.role) (sym same) ∙ role))
      by t e v (inr i) role tagged = laid.world.later.exit_forms e.number None (t.tags_land e v i role tagged)

pub surroundings_law : (setting : Setting) (a : Start setting) → LawOfSurroundings setting a
surroundings_law setting a = record {
  of_exit = λ units cost x w z regs y laid first. around_exit setting a laid first;
  of_cleanup = λ units cost w z regs y laid. around_cleanup setting a laid;
}

pub bodies_law : (setting : Setting) (a : Start setting) → LawOfBodies setting a
bodies_law setting a = record {
  of_exit = λ units cost n m x forms own count numbers w z regs y laid first scope enough there exits.
      begins_inside setting a laid (around_exit setting a laid first) exits n m scope enough there;
  of_cleanup = λ units cost n m forms own count numbers w z regs y laid scope enough there exits.
      begins_inside setting a laid (around_cleanup setting a laid) exits n m scope enough there;
}
