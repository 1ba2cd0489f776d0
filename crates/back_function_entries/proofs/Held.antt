-- What a body's registers hold behind its variables: the function itself, or the call of its method; and arguments that were lent, or are kept.
use Rattle.std.proofs.Common.{◌≡◌, inl, inr, ℕ, zero, suc, ◌+◌, ◌*◌, ◌<◌, ◌≤◌, Bool, List, [], ◌∷◌, ◌++◌, length, Option, Some, None, refl, sym, ap, ◌∙◌, subst, arith, length-append}
use Rattle.std.specs.Prelude.{slice_get, slice_index_or}
use Rattle.lang_meaning.specs.Objects.{Called}
use Rattle.lang_meaning.specs.Values.{Value, nil}
use Rattle.flat_language.specs.declared.program.FlatProcedure.{FlatProcedure}
use Rattle.flat_language.specs.FlatState.{Captured, FlatState}
use Rattle.mid_code.specs.Arena.{Arena, stack_from, word_at}
use Rattle.mid_code.specs.State.{Registers, register, MidState}
use Rattle.mid_arena.specs.Places.{of_other}
use Rattle.mid_arena.specs.Standing.{ValueAt, ValuesAt}
use Rattle.mid_arena.proofs.Growing.{spot_below}
use Rattle.back_lowering.specs.Calls.{variable_count}
use Rattle.back_lowering.specs.Program.{Extra, nothing, its_method, itself, extra_count, method_at}
use Rattle.back_relation.specs.Setting.{Setting}
use Rattle.back_relation.specs.Worlds.{World}
use Rattle.back_relation.specs.Things.{Things}
use Rattle.back_relation.specs.Activation.{SelfHeld, ArgumentsKept, ArgumentsHeld, in_heap, on_stack, ArgumentsThere, MethodHeld, MethodThere}
use Rattle.back_relation.specs.Ends.{WorldKept}
use Rattle.back_relation.specs.Procedures.{as_registers, CapturedFits, ExtraGiven, ArgumentsGiven}
use Rattle.back_relation.proofs.Activations.{kept_later}
use Rattle.back_relation.proofs.Worlds.{word_later, plain_later}

-- the call of a method is in other registers
pub method_moved :
    (setting : Setting) (w : World) (a : Arena) (keeps : Bool) (regs regs' : Registers) (m m' : ℕ) (called : Option Called) → register m' regs' ≡ register m regs
    → register (m' + 1) regs' ≡ register (m + 1) regs → register (m' + 2) regs' ≡ register (m + 2) regs → MethodHeld setting w a keeps regs (Some m) called
    → MethodHeld setting w a keeps regs' (Some m') called
method_moved setting w a keeps regs regs' m m' None e f g h = (h.0, h.1, e ∙ h.2, f ∙ h.3, g ∙ h.4)
method_moved setting w a keeps regs regs' m m' (Some c) e f g h = record {
  chain = h.chain;
  arguments = h.arguments;
  chain_word = e ∙ h.chain_word;
  count_word = f ∙ h.count_word;
  arguments_word = g ∙ h.arguments_word;
  chain_stands = h.chain_stands;
  takes = h.takes;
  held = h.held;
  kept = h.kept;
}

pub there_moved :
    (setting : Setting) (w : World) (a : Arena) (regs regs' : Registers) (m m' : ℕ) (called : Option Called) → register (m' + 2) regs' ≡ register (m + 2) regs
    → MethodThere setting w a regs (Some m) called → MethodThere setting w a regs' (Some m') called
there_moved setting w a regs regs' m m' None g h = tt
there_moved setting w a regs regs' m m' (Some c) g h = λ address e. h address (sym g ∙ e)

-- what registers hold behind the variables
pub record ExtraHeld (setting : Setting) (extra : Extra) (q : FlatProcedure) (cs : List Captured) (called_as : Option Called) (w : World) (z : FlatState) (regs : Registers) (y : MidState) : Type 0 where
  pub self : SelfHeld w z.captured (register (variable_count q) regs) cs
  pub method : MethodHeld setting w y.arena q.keeps_method regs (method_at setting.names setting.at setting.program extra (variable_count q)) called_as
  pub there : MethodThere setting w y.arena regs (method_at setting.names setting.at setting.program extra (variable_count q)) called_as

first_of : (more : List ℕ) → register 0 (as_registers more) ≡ slice_get more 0
first_of [] = refl
first_of (w ∷ ws) = refl

pub extra_held :
    (setting : Setting) (extra : Extra) (q : FlatProcedure) (cs : List Captured) (called_as : Option Called) (more : List ℕ) (w : World) (z : FlatState) (regs : Registers) (y : MidState)
    → ((i : ℕ) → i < length more → register (variable_count q + i) regs ≡ register i (as_registers more)) → (extra ≡ itself → ⊥) → cs ≡ []
    → ExtraGiven setting w z y extra q cs called_as more → ExtraHeld setting extra q cs called_as w z regs y
extra_held setting nothing q cs called_as more w z regs y at other none g = record {
  self = subst (λ us. SelfHeld w z.captured (register (variable_count q) regs) us) (sym none) tt;
  method = subst (λ o. MethodHeld setting w y.arena q.keeps_method regs None o) (sym g.0) tt;
  there = tt;
}
extra_held setting its_method q cs called_as more w z regs y at other none g =
    let count = g.0 in
    let zero_there : variable_count q + 0 ≡ variable_count q = omega arith in
    record {
      self = subst (λ us. SelfHeld w z.captured (register (variable_count q) regs) us) (sym none) tt;
      method =
          method_moved setting w y.arena q.keeps_method (as_registers more) regs 0 (variable_count q) called_as
          (ap (λ n. register n regs) (sym zero_there) ∙ at 0 (omega (arith, count))) (at 1 (omega (arith, count))) (at 2 (omega (arith, count))) g.1;
      there = there_moved setting w y.arena (as_registers more) regs 0 (variable_count q) called_as (at 2 (omega (arith, count))) g.2;
    }
extra_held setting itself q cs called_as more w z regs y at other none g = absurd (other refl)

pub itself_held :
    (setting : Setting) (q : FlatProcedure) (cs : List Captured) (called_as : Option Called) (more : List ℕ) (w : World) (z : FlatState) (regs : Registers) (y : MidState)
    → ((i : ℕ) → i < length more → register (variable_count q + i) regs ≡ register i (as_registers more)) → ExtraGiven setting w z y itself q cs called_as more
    → ExtraHeld setting itself q cs called_as w z regs y
itself_held setting q cs called_as more w z regs y at g =
    let count = g.1 in
    let zero_there : variable_count q + 0 ≡ variable_count q = omega arith in
    record {
      self =
          subst (λ o. SelfHeld w z.captured o cs) (sym (first_of more) ∙ sym (at 0 (omega (arith, count))) ∙ ap (λ n. register n regs) zero_there) g.2;
      method = subst (λ o. MethodHeld setting w y.arena q.keeps_method regs None o) (sym g.0) tt;
      there = tt;
    }

pub more_count :
    (setting : Setting) (extra : Extra) (q : FlatProcedure) (cs : List Captured) (called_as : Option Called) (more : List ℕ) (w : World) (z : FlatState) (y : MidState)
    → ExtraGiven setting w z y extra q cs called_as more → length more ≡ extra_count extra
more_count setting nothing q cs called_as more w z y g = ap length g.1
more_count setting its_method q cs called_as more w z y g = g.0
more_count setting itself q cs called_as more w z y g = g.1

-- what was given is held, whatever it is
pub held_by :
    (setting : Setting) (entry : ℕ) (extra : Extra) (q : FlatProcedure) (cs : List Captured) (called_as : Option Called) (more : List ℕ) (w : World) (z : FlatState) (regs : Registers)
    (y : MidState) → CapturedFits setting w entry extra q cs → ((i : ℕ) → i < length more → register (variable_count q + i) regs ≡ register i (as_registers more))
    → ExtraGiven setting w z y extra q cs called_as more → ExtraHeld setting extra q cs called_as w z regs y
held_by setting entry nothing q cs called_as more w z regs y fits at g = extra_held setting nothing q cs called_as more w z regs y at (λ e. absurd (cc e)) fits g
held_by setting entry its_method q cs called_as more w z regs y fits at g = extra_held setting its_method q cs called_as more w z regs y at (λ e. absurd (cc e)) fits g
held_by setting entry itself q cs called_as more w z regs y fits at g = itself_held setting q cs called_as more w z regs y at g

-- ---- below a frame

pub values_below : (w : World) (y y' : MidState) (address : ℕ) (vs : List Value) → ((x : ℕ) → word_at y'.arena x ≡ word_at y.arena x) → ValuesAt w.places y.arena address vs → ValuesAt w.places y'.arena address vs
values_below w y y' address vs same h i few = let at = h i few in record { word = at.word; of_value = at.of_value; stands = same (address + 4 * i) ∙ at.stands }

-- the arguments of a method that are there are held, where all words are as they were
held_below :
    (w : World) (y y' : MidState) (address : ℕ) (called : Called) → ((x : ℕ) → word_at y'.arena x ≡ word_at y.arena x) → ArgumentsThere w y.arena address called
    → ArgumentsHeld w y.arena address called → ArgumentsHeld w y'.arena address called
held_below w y y' address called same there (in_heap k) = in_heap k
held_below w y y' address called same (inl k) (on_stack values plain) = in_heap k
held_below w y y' address called same (inr low) (on_stack values plain) = on_stack (λ deep. values_below w y y' address called.arguments same (values low.0)) plain

there_below : (w : World) (y y' : MidState) (address : ℕ) (called : Called) → stack_from y'.arena ≤ stack_from y.arena → ArgumentsThere w y.arena address called → ArgumentsThere w y'.arena address called
there_below w y y' address called from (inl k) = inl k
there_below w y y' address called from (inr low) = inr (omega (arith, low.0, from), low.1)

pub extra_below :
    (setting : Setting) (extra : Extra) (q : FlatProcedure) (cs : List Captured) (called_as : Option Called) (more : List ℕ) (w : World) (z : FlatState) (y y' : MidState)
    → ((x : ℕ) → word_at y'.arena x ≡ word_at y.arena x) → stack_from y'.arena ≤ stack_from y.arena → ExtraGiven setting w z y extra q cs called_as more
    → ExtraGiven setting w z y' extra q cs called_as more
extra_below setting nothing q cs called_as more w z y y' same from g = g
extra_below setting itself q cs called_as more w z y y' same from g = g
extra_below setting its_method q cs None more w z y y' same from g = (g.0, g.1, tt)
extra_below setting its_method q cs (Some called) more w z y y' same from g =
    let h = g.1 in (
      g.0,
      record {
        chain = h.chain;
        arguments = h.arguments;
        chain_word = h.chain_word;
        count_word = h.count_word;
        arguments_word = h.arguments_word;
        chain_stands = h.chain_stands;
        takes = h.takes;
        held = held_below w y y' h.arguments called same (g.2 h.arguments h.arguments_word) h.held;
        kept = h.kept;
      },
      λ address e. there_below w y y' address called from (g.2 address e),
    )

-- ---- arguments that were lent, or are kept

index_behind : (us vs : List Value) (i : ℕ) → slice_index_or (us ++ vs) (length us + i) nil ≡ slice_index_or vs i nil
index_behind [] vs i = let same : 0 + i ≡ i = omega arith in ap (λ n. slice_index_or vs n nil) same
index_behind (u ∷ us) vs i = let same : suc (length us) + i ≡ suc (length us + i) = omega arith in ap (λ n. slice_index_or (u ∷ us ++ vs) n nil) same ∙ index_behind us vs i

module _ (setting : Setting) {w : World} {z : FlatState} {y : MidState} (t : Things setting w z y) where
  -- what was kept stands behind its call
  kept_values : (address : ℕ) (vs : List Value) → ArgumentsKept w address vs → ValuesAt w.places y.arena address vs
  kept_values address vs k i few =
      let here = k.here in
      let place : k.start + 8 + 4 * (length k.before + i) ≡ address + 4 * i = omega (arith, here) in
      let many : length k.call.arguments ≡ length k.before + length vs = ap length k.arguments ∙ length-append k.before vs in
      let same : slice_index_or k.call.arguments (length k.before + i) nil ≡ slice_index_or vs i nil =
      ap (λ us. slice_index_or us (length k.before + i) nil) k.arguments ∙ index_behind k.before vs i in
      let stands = t.methods k.number k.start k.call k.is_kept in
      subst (λ x. ValueAt w.places y.arena x (slice_index_or vs i nil)) place
      (subst (λ v. ValueAt w.places y.arena (k.start + 8 + 4 * (length k.before + i)) v) same (stands.arguments (length k.before + i) (omega (arith, few, many))))

  -- and it is in the heap
  pub kept_low : (address : ℕ) (vs : List Value) → ArgumentsKept w address vs → address + 4 * length vs ≤ y.arena.heap_to
  kept_low address vs k =
      let here = k.here in
      let many : length k.call.arguments ≡ length k.before + length vs = ap length k.arguments ∙ length-append k.before vs in
      let stands = t.methods k.number k.start k.call k.is_kept in
      let spot = t.represents.spots (of_other stands.spot.number) (record { address = k.start; words = 2 + length k.call.arguments; tag = 0 }) stands.spot.there in
      let low = spot_below t.represents.arena spot in
      omega (arith, here, many, low)

  -- **the words of arguments that are given stand**
  pub given_values : (address : ℕ) (vs : List Value) → ArgumentsGiven setting w y.arena address vs → ValuesAt w.places y.arena address vs
  given_values address vs (inl lent) = lent.values
  given_values address vs (inr kept) = kept_values address vs kept

-- those of the call of a method are there
pub given_there :
    (setting : Setting) (w : World) (a : Arena) (address : ℕ) (vs : List Value) (called : Called) → called.arguments ≡ vs → ArgumentsGiven setting w a address vs → ArgumentsThere w a address called
given_there setting w a address vs called same (inl lent) = inr (lent.low, lent.is_word)
given_there setting w a address vs called same (inr kept) = inl (subst (λ us. ArgumentsKept w address us) (sym same) kept)

-- they are given below a frame, and behind what was done
pub given_below :
    (setting : Setting) (w : World) (y y' : MidState) (address : ℕ) (vs : List Value) → ((x : ℕ) → word_at y'.arena x ≡ word_at y.arena x) → stack_from y'.arena ≤ stack_from y.arena
    → ArgumentsGiven setting w y.arena address vs → ArgumentsGiven setting w y'.arena address vs
given_below setting w y y' address vs same from (inl lent) =
    inl (record {
      low = let low = lent.low in omega (arith, low, from);
      is_word = lent.is_word;
      values = values_below w y y' address vs same lent.values;
      plain = lent.plain;
    })
given_below setting w y y' address vs same from (inr kept) = inr kept

pub given_then :
    (setting : Setting) {w w' : World} {z z' : FlatState} {y y' : MidState} (address : ℕ) (vs : List Value) → WorldKept setting w w' z z' y y' → stack_from y'.arena ≡ stack_from y.arena
    → ArgumentsGiven setting w y.arena address vs → ArgumentsGiven setting w' y'.arena address vs
given_then setting address vs k from (inl lent) =
    let low = lent.low in
    inl (record {
      low = omega (arith, low, from);
      is_word = lent.is_word;
      values = λ i few.
          let at = lent.values i few in
          record {
            word = at.word;
            of_value = word_later k.later (slice_index_or vs i nil) at.word at.of_value;
            stands = k.stack.words (address + 4 * i) (omega (arith, low)) (omega (arith, low, from)) (lent.plain (4 * i) (omega (arith, few))) ∙ at.stands;
          };
      plain = λ i few. plain_later (address + i) k.later (lent.plain i few);
    })
given_then setting address vs k from (inr kept) = inr (kept_later k.later kept)
