-- Variables beside boxes and slots: what new variables, settings, and the begin and the end of an activation make of them.
use Rattle.std.proofs.Common.{◌≡◌, ℕ, ◌+◌, ◌<◌, List, [], ◌++◌, refl, sym, ap, subst, ◌∙◌, ⊎_elim, Some, length, take, arith, length-append}
use Rattle.std.proofs.lemmas.List.{length-take-le}
use Rattle.std.proofs.lemmas.Option.{slice_get_within}
use Rattle.std.specs.Prelude.{⊤, slice_get, slice_set}
use Rattle.lang_meaning.specs.Values.{Value}
use Rattle.flat_language.specs.FlatState.{FrameSlot, holds}
use Rattle.flat_language.proofs.Alike.{VariableKind, constant, boxed, slot, World, StandsIn, ValueAlike, VariableAlike, slot_for, IsInSlot, SlotAlike, VariablesAlike}
use Rattle.flat_language.proofs.Lists.{some_same, same_or_not, other_place, length-changed, changed_place, in_front, behind, behind_all, IsBehind, of_either, IsThere, is_there, among_first}

-- what is known of the m-th new variable, where the new ones have the numbers from i on, and the new boxes those from j on
abbrev pub NewValue : (holders : List ℕ) (boxes : List Value) (i j m : ℕ) → VariableKind → Value → Type 0
NewValue holders boxes i j m (constant u) v = u ≡ v
NewValue holders boxes i j m (boxed l) v = (p : ℕ) × (l ≡ j + p × slice_get holders p ≡ Some (i + m) × slice_get boxes p ≡ Some v)
NewValue holders boxes i j m (slot l) v = ⊤

pub record NewVariable (holders : List ℕ) (values boxes : List Value) (i j m : ℕ) (k : VariableKind) : Type 0 where
  pub now : Value
  pub there : slice_get values m ≡ Some now
  pub alike : NewValue holders boxes i j m k now

module _ {w : World} {variables boxes : List Value} {frame : List FrameSlot} (r : VariablesAlike w variables boxes frame)
    (kinds : List VariableKind) (holders : List ℕ) (values new_boxes : List Value) where
  -- what was known of an old value
  grown : (i : ℕ) (k : VariableKind) (v : Value) → ValueAlike w.holders w.start boxes i k v → ValueAlike (w.holders ++ holders) w.start (boxes ++ new_boxes) i k v
  grown i (constant u) v a = a
  grown i (boxed j) v a = (in_front w.holders holders j i a.0, in_front boxes new_boxes j v a.1)
  grown i (slot n) v a = a

  -- what is known of a new one
  added : (i m : ℕ) → i ≡ length variables + m → (k : VariableKind) (v : Value) → NewValue holders new_boxes (length variables) (length boxes) m k v
      → ValueAlike (w.holders ++ holders) w.start (boxes ++ new_boxes) i k v
  added i m e (constant u) v a = a
  added i m e (boxed l) v a = (
    ap (λ n. slice_get (w.holders ++ holders) n) a.1.0 ∙ behind_all w.holders holders (length boxes) a.0 r.box_count ∙ a.1.1 ∙ ap Some (sym e),
    ap (λ n. slice_get (boxes ++ new_boxes) n) a.1.0 ∙ behind boxes new_boxes a.0 ∙ a.1.2,
  )
  added i m e (slot n) v a = λ u h. absurd (omega (arith, slice_get_within w.start i u h, r.since, e))

  -- with more variables and boxes the frame stays
  pub more_variables : length kinds ≡ length values → length holders ≡ length new_boxes
      → ((m : ℕ) (k : VariableKind) → slice_get kinds m ≡ Some k → NewVariable holders values new_boxes (length variables) (length boxes) m k)
      → VariablesAlike (record w { kinds = w.kinds ++ kinds; holders = w.holders ++ holders }) (variables ++ values) (boxes ++ new_boxes) frame
  more_variables e f new = record {
    count = length-append w.kinds kinds ∙ ap (λ n. n + length kinds) r.count ∙ ap (λ n. length variables + n) e ∙ sym (length-append variables values);
    box_count = length-append w.holders holders ∙ ap (λ n. n + length holders) r.box_count ∙ ap (λ n. length boxes + n) f ∙ sym (length-append boxes new_boxes);
    slot_count = r.slot_count;
    since = omega (arith, r.since, length-append variables values);
    known = λ i k h. ⊎_elim
        (λ g. let old : VariableAlike w.holders w.start variables boxes i k = r.known i k g in record {
          now = old.now;
          there = in_front variables values i old.now old.there;
          alike = grown i k old.now old.alike;
        })
        (λ (g : IsBehind w.kinds kinds i k).
        let one : NewVariable holders values new_boxes (length variables) (length boxes) g.at k = new g.at k g.item in
        let place : i ≡ length variables + g.at = g.place ∙ ap (λ n. n + g.at) r.count in record {
          now = one.now;
          there = ap (λ n. slice_get (variables ++ values) n) place ∙ behind variables values g.at ∙ one.there;
          alike = added i g.at place k one.now one.alike;
        })
        (of_either w.kinds kinds i k h);
    slots = λ n i h. let s : SlotAlike w.kinds w.start variables frame n i = r.slots n i h in record {
      kind = s.kind;
      known = in_front w.kinds kinds i s.kind s.known;
      now = s.now;
      there = in_front variables values i s.now s.there;
      here = s.here;
      in_slot = s.in_slot;
      newer = s.newer;
    };
  }

-- more slots, of variables that are there
pub more_slots : {w : World} {variables boxes : List Value} {frame : List FrameSlot} → VariablesAlike w variables boxes frame
    → (own : List ℕ) (slots : List FrameSlot) → length slots ≡ length own
    → ((m i : ℕ) → slice_get own m ≡ Some i → SlotAlike w.kinds w.start variables (frame ++ slots) (length w.own + m) i)
    → VariablesAlike (record w { own = w.own ++ own }) variables boxes (frame ++ slots)
more_slots {w} {variables} {boxes} {frame} r own slots e new = record {
  count = r.count;
  box_count = r.box_count;
  slot_count = length-append frame slots ∙ ap (λ n. n + length slots) r.slot_count ∙ ap (λ n. length w.own + n) e ∙ sym (length-append w.own own);
  since = r.since;
  known = r.known;
  slots = λ n i h. ⊎_elim
      (λ g. let s : SlotAlike w.kinds w.start variables frame n i = r.slots n i g in record {
        kind = s.kind;
        known = s.known;
        now = s.now;
        there = s.there;
        here = in_front frame slots n (slot_for s.kind s.now) s.here;
        in_slot = s.in_slot;
        newer = s.newer;
      })
      (λ (g : IsBehind w.own own n i). subst (λ m. SlotAlike w.kinds w.start variables (frame ++ slots) m i) (sym g.place) (new g.at i g.item))
      (of_either w.own own n i h);
}

-- fewer slots: the last ones are gone
pub fewer_slots : {w : World} {variables boxes : List Value} {frame : List FrameSlot} → VariablesAlike w variables boxes frame
    → (own gone : List ℕ) → w.own ≡ own ++ gone → VariablesAlike (record w { own = own }) variables boxes (take (length own) frame)
fewer_slots {w} {variables} {boxes} {frame} r own gone e =
    let size : length frame ≡ length own + length gone = r.slot_count ∙ ap length e ∙ length-append own gone in record {
      count = r.count;
      box_count = r.box_count;
      slot_count = length-take-le (length own) frame (omega (arith, size));
      since = r.since;
      known = r.known;
      slots = λ n i h.
          let s : SlotAlike w.kinds w.start variables frame n i = r.slots n i (ap (λ ns. slice_get ns n) e ∙ in_front own gone n i h) in record {
            kind = s.kind;
            known = s.known;
            now = s.now;
            there = s.there;
            here = among_first frame (length own) n (slot_for s.kind s.now) (slice_get_within own n i h) s.here;
            in_slot = s.in_slot;
            newer = s.newer;
          };
    }

-- a value when an activation begins is as it is
begun_value : (holders : List ℕ) (start variables boxes : List Value) (i : ℕ) (k : VariableKind) (v : Value) → slice_get variables i ≡ Some v
    → ValueAlike holders start boxes i k v → ValueAlike holders variables boxes i k v
begun_value holders start variables boxes i (constant u) v h a = a
begun_value holders start variables boxes i (boxed j) v h a = a
begun_value holders start variables boxes i (slot n) v h a = λ u g. some_same (sym g ∙ h)

-- an activation begins, without slots
pub begun : {w : World} {variables boxes : List Value} {frame : List FrameSlot} → VariablesAlike w variables boxes frame
    → VariablesAlike (record w { own = []; start = variables }) variables boxes []
begun {w} {variables} {boxes} {frame} r = record {
  count = r.count;
  box_count = r.box_count;
  slot_count = refl;
  since = omega arith;
  known = λ i k h. let old : VariableAlike w.holders w.start variables boxes i k = r.known i k h in record {
    now = old.now;
    there = old.there;
    alike = begun_value w.holders w.start variables boxes i k old.now old.there old.alike;
  };
  slots = λ n i h. absurd (cc h);
}

-- and it ends: the frame of the one around it is again the frame there
module _ {w u : World} {variables boxes now_variables now_boxes : List Value} {frame inner : List FrameSlot}
    (r : VariablesAlike w variables boxes frame) (l : StandsIn w.kinds u.kinds) (began : u.start ≡ variables) (s : VariablesAlike u now_variables now_boxes inner) where
  -- what was known of a variable when the activation began
  was_known : (i : ℕ) (k : VariableKind) → slice_get u.kinds i ≡ Some k → i < length w.kinds → slice_get w.kinds i ≡ Some k
  was_known i k h b =
      let old : IsThere w.kinds i = is_there w.kinds i b in
      old.there ∙ (sym (l.kept i old.item old.there) ∙ h)

  -- a variable with a slot elsewhere is as it was
  unchanged : (i n : ℕ) → slice_get w.kinds i ≡ Some (slot n) → (v : Value) → slice_get variables i ≡ Some v
      → (x : Value) → ValueAlike u.holders u.start now_boxes i (slot n) x → v ≡ x
  unchanged i n h v there x a = a v (ap (λ (vs : List Value). slice_get vs i) began ∙ there)

  -- a value after the activation, for the one around it
  ended_value : (i : ℕ) (k : VariableKind) → slice_get u.kinds i ≡ Some k → (x : Value) → ValueAlike u.holders u.start now_boxes i k x
      → ValueAlike u.holders w.start now_boxes i k x
  ended_value i (constant v) h x a = a
  ended_value i (boxed j) h x a = a
  ended_value i (slot n) h x a = λ v g.
      let known : slice_get w.kinds i ≡ Some (slot n) =
      was_known i (slot n) h (omega (arith, slice_get_within w.start i v g, r.since, r.count)) in
      let old : VariableAlike w.holders w.start variables boxes i (slot n) = r.known i (slot n) known in
      old.alike v g ∙ unchanged i n known old.now old.there x a

  -- a slot of the one around it holds what it held
  same_slot : (i : ℕ) (k : VariableKind) → slice_get w.kinds i ≡ Some k → (v x : Value) → slice_get variables i ≡ Some v
      → ValueAlike u.holders u.start now_boxes i k x → slot_for k v ≡ slot_for k x
  same_slot i (constant c) h v x there a =
      let old : VariableAlike w.holders w.start variables boxes i (constant c) = r.known i (constant c) h in
      ap holds (some_same (sym there ∙ old.there) ∙ sym old.alike ∙ a)
  same_slot i (boxed j) h v x there a = refl
  same_slot i (slot n) h v x there a = ap holds (unchanged i n h v there x a)

  -- the frame around is right again
  pub ended : VariablesAlike (record u { own = w.own; start = w.start }) now_variables now_boxes frame
  ended = record {
    count = s.count;
    box_count = s.box_count;
    slot_count = r.slot_count;
    since = omega (arith, r.since, s.since, ap length began);
    known = λ i k h. let now : VariableAlike u.holders u.start now_variables now_boxes i k = s.known i k h in record {
      now = now.now;
      there = now.there;
      alike = ended_value i k h now.now now.alike;
    };
    slots = λ n i h.
        let old : SlotAlike w.kinds w.start variables frame n i = r.slots n i h in
        let now : VariableAlike u.holders u.start now_variables now_boxes i old.kind = s.known i old.kind (l.kept i old.kind old.known) in record {
          kind = old.kind;
          known = l.kept i old.kind old.known;
          now = now.now;
          there = now.there;
          here = old.here ∙ ap Some (same_slot i old.kind old.known old.now now.now old.there now.alike);
          in_slot = old.in_slot;
          newer = old.newer;
        };
  }

-- what a slot holds, by what is known of its variable
pub slot_known : {w : World} {variables boxes : List Value} {frame : List FrameSlot} → VariablesAlike w variables boxes frame
    → (n i : ℕ) → slice_get w.own n ≡ Some i → (k : VariableKind) → slice_get w.kinds i ≡ Some k
    → (v : Value) → slice_get variables i ≡ Some v → slice_get frame n ≡ Some (slot_for k v)
slot_known {w} {variables} {boxes} {frame} r n i h k known v there =
    let s : SlotAlike w.kinds w.start variables frame n i = r.slots n i h in
    s.here
    ∙ ap (λ l. Some (slot_for l s.now)) (some_same (sym s.known ∙ known))
    ∙ ap (λ x. Some (slot_for k x)) (some_same (sym s.there ∙ there))

-- a variable is set
module _ {w : World} {variables boxes : List Value} {frame : List FrameSlot} (r : VariablesAlike w variables boxes frame) (i : ℕ) (v : Value) where
  -- another variable
  other_variable : (m : ℕ) (x : Value) → (m ≡ i → ⊥) → slice_get variables m ≡ Some x → slice_get (slice_set variables i v) m ≡ Some x
  other_variable m x apart h = other_place variables i m v apart ∙ h

  -- in its box
  module _ (j : ℕ) (known : slice_get w.kinds i ≡ Some (boxed j)) where
    -- what is known of it
    in_box : VariableAlike w.holders w.start variables boxes i (boxed j)
    in_box = r.known i (boxed j) known

    -- the values of others
    other_value : (m : ℕ) (k : VariableKind) (x : Value) → (m ≡ i → ⊥) → ValueAlike w.holders w.start boxes m k x → ValueAlike w.holders w.start (slice_set boxes j v) m k x
    other_value m (constant u) x apart a = a
    other_value m (slot n) x apart a = a
    other_value m (boxed l) x apart a = (
      a.0,
      other_place boxes j l v (λ e. apart (some_same (sym a.0 ∙ ap (λ n. slice_get w.holders n) e ∙ in_box.alike.0))) ∙ a.1,
    )

    -- all is right after it
    pub set_in_box : VariablesAlike w (slice_set variables i v) (slice_set boxes j v) frame
    set_in_box = record {
      count = r.count ∙ sym (length-changed variables i v);
      box_count = r.box_count ∙ sym (length-changed boxes j v);
      slot_count = r.slot_count;
      since = omega (arith, r.since, length-changed variables i v);
      known = λ m k h. same_or_not m i
          (λ e. record {
            now = v;
            there = ap (λ n. slice_get (slice_set variables i v) n) e ∙ changed_place variables i in_box.now v in_box.there;
            alike = subst (λ l. ValueAlike w.holders w.start (slice_set boxes j v) m l v)
                (some_same (sym known ∙ ap (λ n. slice_get w.kinds n) (sym e) ∙ h))
                (in_box.alike.0 ∙ ap Some (sym e), changed_place boxes j in_box.now v in_box.alike.1);
          })
          (λ apart. let old : VariableAlike w.holders w.start variables boxes m k = r.known m k h in record {
            now = old.now;
            there = other_variable m old.now apart old.there;
            alike = other_value m k old.now apart old.alike;
          });
      slots = λ n m h. let s : SlotAlike w.kinds w.start variables frame n m = r.slots n m h in same_or_not m i
          (λ e. let is : s.kind ≡ boxed j = some_same (sym s.known ∙ ap (λ l. slice_get w.kinds l) e ∙ known) in record {
            kind = s.kind;
            known = s.known;
            now = v;
            there = ap (λ l. slice_get (slice_set variables i v) l) e ∙ changed_place variables i in_box.now v in_box.there;
            here = s.here ∙ ap (λ k. Some (slot_for k s.now)) is ∙ ap (λ k. Some (slot_for k v)) (sym is);
            in_slot = s.in_slot;
            newer = s.newer;
          })
          (λ apart. record {
            kind = s.kind;
            known = s.known;
            now = s.now;
            there = other_variable m s.now apart s.there;
            here = s.here;
            in_slot = s.in_slot;
            newer = s.newer;
          });
    }

  -- in its slot
  module _ (n : ℕ) (mine : slice_get w.own n ≡ Some i) (known : slice_get w.kinds i ≡ Some (slot n)) where
    -- what is known of its slot
    in_slot : SlotAlike w.kinds w.start variables frame n i
    in_slot = r.slots n i mine

    -- its value is not one of before the activation
    new_value : (k : VariableKind) → slot n ≡ k → ValueAlike w.holders w.start boxes i k v
    new_value (constant u) e = absurd (cc e)
    new_value (boxed j) e = absurd (cc e)
    new_value (slot m) e = λ u h. absurd (omega (arith, slice_get_within w.start i u h, in_slot.newer))

    -- no other slot has it
    same_place : (m : ℕ) (k : VariableKind) → slot n ≡ k → IsInSlot m k → m ≡ n
    same_place m (constant u) e a = absurd (cc e)
    same_place m (boxed j) e a = absurd (cc e)
    same_place m (slot l) e a = sym (let q : n ≡ l = cc e in q ∙ a)

    -- all is right after it
    pub set_in_slot : VariablesAlike w (slice_set variables i v) boxes (slice_set frame n (holds v))
    set_in_slot = record {
      count = r.count ∙ sym (length-changed variables i v);
      box_count = r.box_count;
      slot_count = length-changed frame n (holds v) ∙ r.slot_count;
      since = omega (arith, r.since, length-changed variables i v);
      known = λ m k h. same_or_not m i
          (λ e. record {
            now = v;
            there = ap (λ l. slice_get (slice_set variables i v) l) e ∙ changed_place variables i in_slot.now v in_slot.there;
            alike = subst (λ l. ValueAlike w.holders w.start boxes l k v) (sym e)
                (new_value k (some_same (sym known ∙ ap (λ l. slice_get w.kinds l) (sym e) ∙ h)));
          })
          (λ apart. let old : VariableAlike w.holders w.start variables boxes m k = r.known m k h in record {
            now = old.now;
            there = other_variable m old.now apart old.there;
            alike = old.alike;
          });
      slots = λ m l h. let s : SlotAlike w.kinds w.start variables frame m l = r.slots m l h in same_or_not l i
          (λ e.
          let is : slot n ≡ s.kind = some_same (sym known ∙ ap (λ a. slice_get w.kinds a) (sym e) ∙ s.known) in
          let place : m ≡ n = same_place m s.kind is s.in_slot in record {
            kind = s.kind;
            known = s.known;
            now = v;
            there = ap (λ a. slice_get (slice_set variables i v) a) e ∙ changed_place variables i in_slot.now v in_slot.there;
            here = ap (λ a. slice_get (slice_set frame n (holds v)) a) place ∙ changed_place frame n (slot_for in_slot.kind in_slot.now) (holds v) in_slot.here
                ∙ ap (λ k. Some (slot_for k v)) is;
            in_slot = s.in_slot;
            newer = s.newer;
          })
          (λ apart. record {
            kind = s.kind;
            known = s.known;
            now = s.now;
            there = other_variable l s.now apart s.there;
            here = other_place frame n m (holds v) (λ e. apart (some_same (sym h ∙ ap (λ a. slice_get w.own a) e ∙ mine))) ∙ s.here;
            in_slot = s.in_slot;
            newer = s.newer;
          });
    }
