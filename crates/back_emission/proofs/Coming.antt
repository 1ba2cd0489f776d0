-- The machine from one moment to another, instruction by instruction.
use Rattle.std.proofs.Common.{inl, inr, ◌≡◌, ℕ, zero, suc, ◌+◌, ◌*◌, ◌%◌, ◌^◌, ◌<◌, ◌≤◌, List, [], ◌∷◌, ◌++◌, length, refl, sym, ap, subst, ◌∙◌, arith, append_assoc, append-nil, length-append}
use Rattle.std.specs.Prelude.{◌⊎◌, slice_index}
use Rattle.rv_encode.specs.declared.instruction.Instr.{Instr}
use Rattle.rv_encode.specs.Decode.{decode_of}
use Rattle.rv_encode.proofs.Read.{word_of-read}
use Rattle.rv_machine.specs.declared.ending.Ending.TheVariants.{Budget}
use Rattle.rv_machine.specs.Memory.{bytes_of}
use Rattle.rv_machine.specs.Words.{word_read}
use Rattle.base.specs.Arithmetic.{sum32}
use Rattle.rv_machine.specs.State.{State}
use Rattle.rv_machine.specs.Step.{next, execute, step_of, fetched, decoded, gives}
use Rattle.rv_machine.specs.Run.{Moment, act, run_from}
use Rattle.back_places.specs.Relation.{HasCode}
use Rattle.back_places.specs.StepLaw.{Comes}
use Rattle.back_emission.specs.Moments.{state_at, Beside, later, moment, beside, AreSmall, Sets, with_word_in}

-- coming on

pub stays : (m : Moment) → Comes 0 m m
unfolding run_from
stays m = record {
  whole = λ n. let e : 0 + n ≡ n = omega arith in ap (λ x. run_from x m) e;
  goes_on = λ n h. let e : n ≡ 0 = omega (arith, h) in rw e refl;
  within = λ n h. let e : n ≡ 0 = omega (arith, h) in ([], rw e (append-nil m.printed));
}

-- a number is at most another, or another and more
split : (a n : ℕ) → (n ≤ a) ⊎ ((k : ℕ) × (n ≡ a + k))
split zero n = inr (n, omega arith)
split (suc a) zero = inl (omega arith)
split (suc a) (suc n) = elim (split a n) [
  | inl h ↦ inl (omega (arith, h))
  | inr h ↦ inr (h.0, omega (arith, h.1))
]

pub and_on : {a b : ℕ} {m m' m'' : Moment} → Comes a m m' → Comes b m' m'' → Comes (a + b) m m''
unfolding run_from
and_on {a} {b} {m} {m'} {m''} c d = record {
  whole = λ n. let e : a + b + n ≡ a + (b + n) = omega arith in ap (λ x. run_from x m) e ∙ c.whole (b + n) ∙ d.whole n;
  goes_on = λ n h. elim (split a n) [
    | inl k ↦ c.goes_on n k
    | inr k ↦ let e : k.0 ≤ b = omega (arith, k.1, h) in ap (λ x. (run_from x m).ending) k.1 ∙ ap (λ x. x.ending) (c.whole k.0) ∙ d.goes_on k.0 e
  ];
  within = λ n h. elim (split a n) [
    | inl k ↦
        let f = c.within n k in
        let g = d.within 0 (omega arith) in
        (f.0 ++ g.0, sym (append_assoc _ f.0 g.0) ∙ ap (λ l. l ++ g.0) f.1 ∙ g.1)
    | inr k ↦
        let e : k.0 ≤ b = omega (arith, k.1, h) in
        let g = d.within k.0 e in
        (g.0, ap (λ x. (run_from x m).at.printed ++ g.0) k.1 ∙ ap (λ x. x.at.printed ++ g.0) (c.whole k.0) ∙ g.1)
  ];
}

-- a step that prints nothing
pub one_step : (s s' : State) (o : Beside) → step_of s ≡ next s' → Comes 1 (moment s o) (moment s' (later 1 o))
unfolding run_from
one_step s s' o e = record {
  whole = λ n. let one_more : 1 + n ≡ suc n = omega arith in ap (λ x. run_from x (moment s o)) one_more ∙ ap (λ r. act (run_from n) r (moment s o)) e;
  goes_on = λ n h. by n h;
  within = λ n h. prints n h;
}
  where
    by : (n : ℕ) → n ≤ 1 → (run_from n (moment s o)).ending ≡ Budget
    by zero h = refl
    by (suc zero) h = ap (λ r. (act (run_from 0) r (moment s o)).ending) e
    by (suc (suc n)) h = absurd (omega (arith, h))

    prints : (n : ℕ) → n ≤ 1 → (rest : List ℕ) × ((run_from n (moment s o)).at.printed ++ rest ≡ o.printed)
    prints zero h = ([], append-nil o.printed)
    prints (suc zero) h = ([], ap (λ r. (act (run_from 0) r (moment s o)).at.printed ++ []) e ∙ append-nil o.printed)
    prints (suc (suc n)) h = absurd (omega (arith, h))

-- the step at an instruction that stands in the words
pub step_at :
    (i : ℕ) (registers words : List ℕ) (ins : Instr) (more : List Instr) → HasCode words i (ins ∷ more) → slice_index words i < 2 ^ 32
    → step_of (state_at i registers words) ≡ execute ins (state_at i registers words)
unfolding step_of
step_at i registers words ins more h small =
    ap (λ x. fetched x (state_at i registers words)) (word_read words i h.0 small)
    ∙ ap (λ w. decoded (decode_of w) (state_at i registers words)) h.1
    ∙ ap (λ x. decoded x (state_at i registers words)) (word_of-read ins h.2)

-- instructions that change registers alone

pub next_place : (i : ℕ) → i < 2 ^ 25 → (4 * i + 4) % 2 ^ 32 ≡ 4 * (i + 1)
next_place i b = omega arith

pub sets_none : (words registers : List ℕ) → Sets words [] registers registers
sets_none words registers = record {
  by = λ i o h room.
      let e : i ≡ i + 0 = omega arith in
      let x : o.executed ≡ o.executed + 0 = omega arith in
      subst (λ k. Comes 0 (moment (state_at i registers words) o) (moment (state_at k registers words) (later 0 o))) e
      (subst (λ k. Comes 0 (moment (state_at i registers words) o) (moment (state_at i registers words) (record o { executed = k }))) x (stays _));
}

pub has_front : (words : List ℕ) (i : ℕ) (a b : List Instr) → HasCode words i (a ++ b) → HasCode words i a
has_front words i [] b h = tt
has_front words i (w ∷ ws) b h = (h.0, h.1, h.2, has_front words (i + 1) ws b h.3)

pub has_back : (words : List ℕ) (i : ℕ) (a b : List Instr) → HasCode words i (a ++ b) → HasCode words (i + length a) b
has_back words i [] b h = let e : i ≡ i + 0 = omega arith in subst (λ x. HasCode words x b) e h
has_back words i (w ∷ ws) b h =
    let e : i + 1 + length ws ≡ i + length (w ∷ ws) = omega arith in
    subst (λ x. HasCode words x b) e (has_back words (i + 1) ws b h.3)

pub sets_on :
    {words : List ℕ} {a b : List Instr} {r r' r'' : List ℕ} → Sets words a r r' → Sets words b r' r'' → Sets words (a ++ b) r r''
sets_on {words} {a} {b} {r} {r'} {r''} c d = record {
  by = λ i o h room.
      let len : length (a ++ b) ≡ length a + length b = length-append a b in
      let f = c.by i o (has_front words i a b h) (omega (arith, len, room)) in
      let g = d.by (i + length a) (later (length a) o) (has_back words i a b h) (omega (arith, len, room)) in
      let e : i + length a + length b ≡ i + length (a ++ b) = omega (arith, len) in
      let x : o.executed + length a + length b ≡ o.executed + length (a ++ b) = omega (arith, len) in
      subst (λ k. Comes k (moment (state_at i r words) o) (moment (state_at (i + length (a ++ b)) r'' words) (later (length (a ++ b)) o))) (sym len)
      (subst (λ k. Comes (length a + length b) (moment (state_at i r words) o) (moment (state_at k r'' words) (later (length (a ++ b)) o))) e
      (subst (λ k. Comes (length a + length b) (moment (state_at i r words) o) (moment (state_at (i + length a + length b) r'' words) (record o { executed = k }))) x
      (and_on f g)));
}

pub sets_one :
    (words registers : List ℕ) (ins : Instr) (rd value : ℕ) → AreSmall words
    → ((i : ℕ) → execute ins (state_at i registers words) ≡ gives rd value (state_at i registers words))
    → Sets words (ins ∷ []) registers (with_word_in rd value registers)
sets_one words registers ins rd value small e = record {
  by = λ i o h room.
      let p : sum32 (4 * i) 4 ≡ 4 * (i + 1) = next_place i (omega (arith, room)) in
      one_step (state_at i registers words) (state_at (i + 1) (with_word_in rd value registers) words) o
      (step_at i registers words ins [] h (small i) ∙ e i
      ∙ ap (λ k. next (record { pc = k; registers = with_word_in rd value registers; memory = bytes_of words })) p);
}

-- a moment, by its position and the words of its memory
pub same_moment :
    (m : Moment) (i : ℕ) (words : List ℕ) → m.state.pc ≡ 4 * i → m.state.memory ≡ bytes_of words
    → m ≡ moment (state_at i m.state.registers words) (beside m)
same_moment m i words p q =
    ap (λ x. record m { state = record m.state { pc = x } }) p
    ∙ ap (λ x. record m { state = record { pc = 4 * i; registers = m.state.registers; memory = x } }) q

-- Code that sets registers, and an instruction behind it, from a moment on.
pub and_one :
    (m : Moment) (at : ℕ) (words registers' : List ℕ) (code more : List Instr) (ins : Instr) (s : State) → AreSmall words
    → m.state.pc ≡ 4 * at → m.state.memory ≡ bytes_of words → Sets words code m.state.registers registers'
    → HasCode words at (code ++ ins ∷ more) → at + length code < 2 ^ 25
    → execute ins (state_at (at + length code) registers' words) ≡ next s
    → Comes (length code + 1) m (moment s (later 1 (later (length code) (beside m))))
and_one m at words registers' code more ins s small pc memory sets has low does =
    let first_part = sets.by at (beside m) (has_front words at code (ins ∷ more) has) low in
    let second = one_step (state_at (at + length code) registers' words) s (later (length code) (beside m))
    (step_at (at + length code) registers' words ins more (has_back words at code (ins ∷ more) has) (small (at + length code)) ∙ does) in
    subst (λ y. Comes (length code + 1) y (moment s (later 1 (later (length code) (beside m))))) (sym (same_moment m at words pc memory)) (and_on first_part second)
