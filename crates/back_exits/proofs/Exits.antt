-- The exit of a record: what the code inside comes to, and what the whole comes to, where a transfer to the exit lands.
use Rattle.std.proofs.Common.{◌≡◌, ℕ, suc, ◌+◌, ◌*◌, ◌≤◌, Bool, true, false, List, [], ◌∷◌, length, Some, refl, sym, ap, ◌∙◌, subst, arith}
use Rattle.std.specs.Prelude.{⊤, ◌==◌, ◌||◌, ◌&&◌, if◌then◌else◌}
use Rattle.std.proofs.lemmas.Bool.{eq-eqb, ne_eqb, eqb-true, eqb-false}
use Rattle.lang_meaning.specs.Counts.{unit_cost}
use Rattle.lang_meaning.specs.declared.scope.ExitForm.{ExitForm}
use Rattle.lang_meaning.specs.State.{Exit, Landing, Outcome, value, exit, full, more, Limit, words, unlimited}
use Rattle.lang_meaning.specs.Values.{Value}
use Rattle.flat_language.specs.FlatState.{FlatState, FlatEvaluated}
use Rattle.flat_language.specs.FlatState.{landed as flat_landed, landed_from as flat_landed_from}
use Rattle.mid_code.specs.Arena.{Block, record_of, is_open, lent_from, stack_from, blocks_from}
use Rattle.mid_code.specs.Law.{Grown}
use Rattle.mid_code.specs.State.{Registers, End, falls, returns, cuts, no_room, no_level, no_turn, halts, unhandled, exhausted, stuck, ends, choose_by, MidState, MidOutcome, Next, landed, landed_from}
use Rattle.mid_code.specs.State.{go_on as mid_go_on}
use Rattle.mid_code.proofs.Growth.{go_on_grown, landed_grown, same_grown}
use Rattle.back_lowering.specs.ControlWords.{record_words}
use Rattle.back_lowering.specs.declared.scope.OwnExit.{OwnExit}
use Rattle.back_relation.specs.Setting.{Setting}
use Rattle.back_relation.specs.Worlds.{World, for_exit, Standing, IsIn, Links, record_of_exit, first_stop}
use Rattle.back_relation.specs.Ends.{Transfers, IsFull, RoomEnded, Because, done, left_by, full_there, stopped, few_turns}
use Rattle.back_relation.specs.Forms.{Begins}
use Rattle.back_relation.specs.Starts.{FlatGrown, Start, FellFrom, LeftFrom, EndsBy, EndsAt}
use Rattle.back_relation.proofs.Growth.{both_prefix, same_flat}
use Rattle.back_relation.proofs.Parts.{go_on_last}
use Rattle.back_relation.proofs.Reaches.{first_stop_in}
use Rattle.back_exits.specs.Inside.{scope_with, environment_with, around_with, around_at, address_inside, record_inside, LaidAt, IsInnermost}
use Rattle.back_exits.proofs.Inside.{at_from, at_to, words_left, found_new, found_outside}
use Rattle.back_exits.proofs.Leaving.{world_outside, registers_outside, activation_outside}

-- ---- lists of records

-- the record of a valid exit is one that stands
pub found_record : (rs : List Standing) (p m e : ℕ) (xs : List Exit) (vs : List Standing) (t : Standing) → Links rs p m xs vs → record_of_exit e xs vs ≡ Some t → IsIn t rs
found_record rs p m e [] [] t l f = absurd (cc f)
found_record rs p m e [] (v ∷ vs) t l f = absurd l
found_record rs p m e (x ∷ xs) [] t l f = absurd l
found_record rs p m e (x ∷ xs) (v ∷ vs) t l f = by (x.number == e) f (λ g. found_record rs v.link x.number e xs vs t l.4 g)
  where
    by : (b : Bool) → (if b then Some v else record_of_exit e xs vs) ≡ Some t → (record_of_exit e xs vs ≡ Some t → IsIn t rs) → IsIn t rs
    by true g inner = let is : v ≡ t = cc g in subst (λ r. IsIn r rs) is l.1
    by false g inner = inner g

pub blocks_fewer : (n p : ℕ) (bs cs : List Block) → blocks_from n bs p ≡ Some cs → length cs ≤ length bs
blocks_fewer n p [] cs f = absurd (cc f)
blocks_fewer n p (b ∷ bs) cs f = by (is_open b.kind && (lent_from n (b ∷ bs) == p)) f (λ g. blocks_fewer n p bs cs g)
  where
    by : (t : Bool) → (if t then Some (b ∷ bs) else blocks_from n bs p) ≡ Some cs → (blocks_from n bs p ≡ Some cs → length cs ≤ length bs) → length cs ≤ suc (length bs)
    by true g inner = let all : b ∷ bs ≡ cs = cc g in let same : length (b ∷ bs) ≡ length cs = ap length all in omega (arith, same)
    by false g inner = omega (arith, inner g)

-- ---- a transfer that lands in the meaning

-- the meaning has no words left, or no level
abbrev pub EndsEarly : Outcome → Type 0
EndsEarly (value v) = ⊥
EndsEarly (exit e v landing) = ⊥
EndsEarly (full asked left_then) = ⊤
EndsEarly more = ⊤

pub full_early : (setting : Setting) (o : Outcome) → IsFull setting o → EndsEarly o
full_early setting (value v) h = h
full_early setting (exit e v landing) h = h
full_early setting (full asked left_then) h = h
full_early setting more h = absurd h

module _ (setting : Setting) (e : ℕ) (land : Value → Landing → FlatState → FlatEvaluated) (land_grows : (v : Value) (l : Landing) (z : FlatState) → FlatGrown z (land v l z).state) where
  pub landed_other : (r : FlatEvaluated) (o : Outcome) → r.outcome ≡ o → EndsEarly o → flat_landed e land r ≡ r
  landed_other r (value v) same h = absurd h
  landed_other r (exit x v l) same h = absurd h
  landed_other r (full asked left_then) same h = ap (λ o. flat_landed_from e land o r.state) same ∙ ap (λ o. record { outcome = o; state = r.state }) (sym same)
  landed_other r more same h = ap (λ o. flat_landed_from e land o r.state) same ∙ ap (λ o. record { outcome = o; state = r.state }) (sym same)

  pub landed_value : (r : FlatEvaluated) (v : Value) → r.outcome ≡ value v → flat_landed e land r ≡ r
  landed_value r v same = ap (λ o. flat_landed_from e land o r.state) same ∙ ap (λ o. record { outcome = o; state = r.state }) (sym same)

  pub landed_grows : (r : FlatEvaluated) → FlatGrown r.state (flat_landed e land r).state
  landed_grows r = from r.outcome
    where
      from : (o : Outcome) → FlatGrown r.state (flat_landed_from e land o r.state).state
      from (value v) = same_flat r.state
      from (exit x v l) = by (x == e)
        where
          by : (b : Bool) → FlatGrown r.state (if b then land v l r.state else record { outcome = exit x v l; state = r.state }).state
          by true = land_grows v l r.state
          by false = same_flat r.state
      from (full asked left_then) = same_flat r.state
      from more = same_flat r.state

  pub because_landed : (r : FlatEvaluated) (q : End) → Because setting r q → Because setting (flat_landed e land r) q
  because_landed r (no_room asked left_then) h = (by setting.limit h.0, h.1)
    where
      by : (l : Limit) → RoomEnded setting l r.outcome → RoomEnded setting l (flat_landed e land r).outcome
      by unlimited k = tt
      by (words m) k = subst (λ (p : FlatEvaluated). IsFull setting p.outcome) (sym (landed_other r r.outcome refl (full_early setting r.outcome k))) k
  because_landed r no_level h = ap (λ (p : FlatEvaluated). p.outcome) (landed_other r more h tt) ∙ h
  because_landed r exhausted h = let g = landed_grows r in omega (arith, h, g.exits)
  because_landed r falls h = h
  because_landed r no_turn h = h
  because_landed r (returns w) h = h
  because_landed r (cuts n w) h = h
  because_landed r (halts w) h = h
  because_landed r (unhandled class site condition) h = h
  because_landed r stuck h = h

-- ---- the code

module _ (outside : ℕ) (rest : Next) (catch : ℕ → Next) where
  pub cut_passes : (q : MidOutcome) (n w : ℕ) → q.end ≡ cuts n w → (n == outside) ≡ false → landed outside catch (mid_go_on q rest) ≡ q
  unfolding landed choose_by
  cut_passes q n w end other =
      ap (landed outside catch) (go_on_last (cuts n w) q rest end tt) ∙ ap (λ e. landed_from e outside catch q) end
      ∙ ap (λ b. choose_by b (catch w) (ends (cuts n w)) q.registers q.state) other ∙ ap (λ e. ends e q.registers q.state) (sym end)

  pub cut_lands : (q : MidOutcome) (n w : ℕ) → q.end ≡ cuts n w → n ≡ outside → landed outside catch (mid_go_on q rest) ≡ catch w q.registers q.state
  unfolding landed choose_by
  cut_lands q n w end same =
      ap (landed outside catch) (go_on_last (cuts n w) q rest end tt) ∙ ap (λ e. landed_from e outside catch q) end
      ∙ ap (λ b. choose_by b (catch w) (ends (cuts n w)) q.registers q.state) (eq-eqb n outside same)

  pub stop_passes : (setting : Setting) (r : FlatEvaluated) (q : MidOutcome) (e : End) → q.end ≡ e → Because setting r e → landed outside catch (mid_go_on q rest) ≡ q
  unfolding landed
  stop_passes setting r q (no_room asked left_then) end h =
      ap (landed outside catch) (go_on_last (no_room asked left_then) q rest end tt) ∙ ap (λ e. landed_from e outside catch q) end
  stop_passes setting r q no_level end h = ap (landed outside catch) (go_on_last no_level q rest end tt) ∙ ap (λ e. landed_from e outside catch q) end
  stop_passes setting r q exhausted end h = ap (landed outside catch) (go_on_last exhausted q rest end tt) ∙ ap (λ e. landed_from e outside catch q) end
  stop_passes setting r q e end h = absurd h

-- ---- **a record with an exit**

module _ (setting : Setting) (a : Start setting) {units cost : ℕ} {x : Exit} {w : World} {z : FlatState} {regs : Registers} {y : MidState}
    (laid : LaidAt setting a units cost (for_exit x) (address_inside setting a) w z regs y) (first : IsInnermost setting a x w z)
    {own : List OwnExit} {count : ℕ} {forms : List ExitForm} {numbers : List ℕ} (n m : ℕ)
    (begins : Begins setting (record_inside setting a (for_exit x) ∷ a.rs) (record_inside setting a (for_exit x) ∷ a.valid) (scope_with count forms own a.s) (a.d + n) m w
    (environment_with numbers a.env) (around_with (x ∷ a.around.exits) a.around) z regs y) where
  abbrev pub new_record : Standing
  new_record = record_inside setting a (for_exit x)

  abbrev pub start_inside : Start setting
  start_inside = record {
    turns = a.turns;
    rs = new_record ∷ a.rs;
    valid = new_record ∷ a.valid;
    s = scope_with count forms own a.s;
    d = a.d + n;
    n = m;
    w = w;
    env = environment_with numbers a.env;
    around = around_with (x ∷ a.around.exits) a.around;
    z = z;
    regs = regs;
    y = y;
    begins = begins;
  }

  module _ (c1 c2 : ℕ) (enough : c1 + cost + 48 ≤ unit_cost * units + c2) where
    -- A transfer to an exit outside passes: it goes where it went.
    module _ {r : FlatEvaluated} {q : MidOutcome} (t : LeftFrom setting c1 start_inside (a.d + n) r q) (other : (x.number == t.transfer.exit_number) ≡ false) where
      abbrev l : Transfers setting c1 (new_record ∷ a.rs) (new_record ∷ a.valid) w (around_with (x ∷ a.around.exits) a.around) z y r q
      l = t.transfer

      valid_outside : record_of_exit l.exit_number a.around.exits a.valid ≡ Some l.target
      valid_outside = sym (ap (λ b. if b then Some new_record else record_of_exit l.exit_number a.around.exits a.valid) other) ∙ l.valid_target

      low_record : (s : Standing) → IsIn s a.rs → stack_from a.y.arena ≤ s.address
      low_record s i = ((around_at setting a).records s i).low

      target_in : IsIn l.target a.rs
      target_in = found_record a.rs (around_at setting a).link a.z.state.exits l.exit_number a.around.exits a.valid l.target (around_at setting a).links valid_outside

      stop_outside : first_stop l.target.address a.rs ≡ l.to ∷ l.outer
      stop_outside =
          sym (ap (λ b. if b || false then new_record ∷ a.rs else first_stop l.target.address a.rs)
          (ne_eqb new_record.address l.target.address (λ e. let low = low_record l.target target_in in let to = at_to setting a laid in omega (arith, e, low, to))))
          ∙ l.stop

      pub to_in : IsIn l.to a.rs
      to_in = first_stop_in l.target.address a.rs l.to l.outer stop_outside

      transfer_outside : Transfers setting c2 a.rs a.valid a.w a.around a.z a.y r q
      transfer_outside = record {
        exit_number = l.exit_number;
        result = l.result;
        landing = l.landing;
        outcome = l.outcome;
        target = l.target;
        valid_target = valid_outside;
        to = l.to;
        outer = l.outer;
        stop = stop_outside;
        word = l.word;
        end = l.end;
        blocks = sym (found_outside setting a laid l.to.address (low_record l.to to_in)) ∙ l.blocks;
        w' = l.w';
        of_value = l.of_value;
        world = world_outside setting a laid l.world;
        charged =
            let charged = l.charged in
            let heap = laid.heap in
            let stack = laid.stack in
            let fewer = words_left setting a laid in
            let from = at_from setting a laid in
            let to = at_to setting a laid in
            omega (arith, charged, heap, stack, fewer, from, to);
        paid =
            let paid = l.paid in
            let there = laid.paid in
            let units_there = laid.units_there in
            omega (arith, paid, there, units_there, enough);
        pending = l.pending;
        landing_word = l.landing_word;
        landing_stands = l.landing_stands;
        landing_is = l.landing_is;
        lands = l.lands;
      }

      pub passing : LeftFrom setting c2 a a.d r q
      unfolding transfer_outside
      passing = record {
        transfer = transfer_outside;
        activation = activation_outside setting a laid l.world {own = own} {count = count} {forms = forms} {numbers = numbers} {exits = x ∷ a.around.exits} n t.registers t.activation;
        registers = registers_outside setting a laid l.world {own = own} {count = count} {forms = forms} {numbers = numbers} {exits = x ∷ a.around.exits} n t.registers t.activation;
      }

      -- such a transfer is not to the block that was laid here
      pub passes_by : (l.to.outside == length a.y.arena.blocks) ≡ false
      passes_by =
          let stands = ((around_at setting a).records l.to to_in).block in
          let fewer = blocks_fewer (length a.y.arena.memory) l.to.address a.y.arena.blocks stands.blocks stands.found in
          let count = stands.count in
          ne_eqb l.to.outside (length a.y.arena.blocks) (λ e. omega (arith, e, fewer, count))

    -- a transfer to this exit goes to this record, whose block is the innermost one then
    pub stops_here : {r : FlatEvaluated} {q : MidOutcome} (t : LeftFrom setting c1 start_inside (a.d + n) r q) → (x.number == t.transfer.exit_number) ≡ true → new_record ∷ a.rs ≡ t.transfer.to ∷ t.transfer.outer
    stops_here {r} {q} t same =
        let l : Transfers setting c1 (new_record ∷ a.rs) (new_record ∷ a.valid) w (around_with (x ∷ a.around.exits) a.around) z y r q = t.transfer in
        let target : new_record ≡ l.target = cc (sym (ap (λ b. if b then Some new_record else record_of_exit l.exit_number a.around.exits a.valid) same) ∙ l.valid_target) in
        let stop : first_stop new_record.address (new_record ∷ a.rs) ≡ new_record ∷ a.rs =
        ap (λ b. if b || false then new_record ∷ a.rs else first_stop new_record.address a.rs) (eq-eqb new_record.address new_record.address refl) in
        sym stop ∙ ap (λ (s : Standing). first_stop s.address (new_record ∷ a.rs)) target ∙ l.stop

    pub lands_here : {r : FlatEvaluated} {q : MidOutcome} (t : LeftFrom setting c1 start_inside (a.d + n) r q) → (x.number == t.transfer.exit_number) ≡ true → new_record ≡ t.transfer.to
    lands_here {r} {q} t same = let all : new_record ∷ a.rs ≡ t.transfer.to ∷ t.transfer.outer = stops_here t same in cc all

    pub blocks_here : {r : FlatEvaluated} {q : MidOutcome} (t : LeftFrom setting c1 start_inside (a.d + n) r q) → new_record ≡ t.transfer.to → q.state.arena.blocks ≡ record_of record_words ∷ a.y.arena.blocks
    blocks_here {r} {q} t same =
        let found : blocks_from (length y.arena.memory) y.arena.blocks new_record.address ≡ Some q.state.arena.blocks =
        ap (λ (s : Standing). blocks_from (length y.arena.memory) y.arena.blocks s.address) same ∙ t.transfer.blocks in
        cc (sym found ∙ found_new setting a laid)

    module _ (rest : Next) (catch : ℕ → Next) (rest_grows : (g : Registers) (y : MidState) → Grown y (rest g y).state) (catch_grows : (v : ℕ) (g : Registers) (y : MidState) → Grown y (catch v g y).state)
        (land : Value → Landing → FlatState → FlatEvaluated) (land_grows : (v : Value) (l : Landing) (z : FlatState) → FlatGrown z (land v l z).state)
        (E : FlatEvaluated → MidOutcome → Type 0)
        -- the code behind the body, and that of the landing
        (r : FlatEvaluated) (q : MidOutcome)
        (leaving :
        FellFrom setting c1 start_inside (a.d + n) r q
        → EndsBy setting (E r (landed (length a.y.arena.blocks) catch (mid_go_on q rest))) c2 a r (landed (length a.y.arena.blocks) catch (mid_go_on q rest)))
        (landing :
        (t : LeftFrom setting c1 start_inside (a.d + n) r q) → new_record ≡ t.transfer.to → t.transfer.exit_number ≡ x.number
        → EndsBy setting (E (land t.transfer.result t.transfer.landing r.state) (catch t.transfer.word q.registers q.state)) c2 a
        (land t.transfer.result t.transfer.landing r.state) (catch t.transfer.word q.registers q.state)) where
      abbrev Whole : FlatEvaluated → MidOutcome → Type 0
      Whole r q = EndsBy setting (E r q) c2 a r q

      abbrev code : MidOutcome → MidOutcome
      code q = landed (length a.y.arena.blocks) catch (mid_go_on q rest)

      abbrev meant : FlatEvaluated → FlatEvaluated
      meant r = flat_landed x.number land r

      -- **what the body comes to, and what the whole comes to**
      pub exit_ends : EndsAt setting c1 start_inside r q → Whole (meant r) (code q)
      exit_ends (done f) = subst (λ p. Whole p (code q)) (sym (landed_value setting x.number land land_grows r f.result f.outcome)) (leaving f)
      exit_ends (left_by t) = by (t.transfer.exit_number == x.number) refl
        where
          source : meant r ≡ (if t.transfer.exit_number == x.number then land t.transfer.result t.transfer.landing r.state else record { outcome = exit t.transfer.exit_number t.transfer.result t.transfer.landing; state = r.state })
          source = ap (λ o. flat_landed_from x.number land o r.state) t.transfer.outcome

          by : (b : Bool) → (t.transfer.exit_number == x.number) ≡ b → Whole (meant r) (code q)
          by true same =
              let number : t.transfer.exit_number ≡ x.number = eqb-true t.transfer.exit_number x.number same in
              let to : new_record ≡ t.transfer.to = lands_here t (eq-eqb x.number t.transfer.exit_number (sym number)) in
              subst (λ p. Whole p (code q))
              (sym (source ∙ ap (λ b. if b then land t.transfer.result t.transfer.landing r.state else record { outcome = exit t.transfer.exit_number t.transfer.result t.transfer.landing; state = r.state }) same))
              (subst (λ p. Whole (land t.transfer.result t.transfer.landing r.state) p)
              (sym (cut_lands (length a.y.arena.blocks) rest catch q t.transfer.to.outside t.transfer.word t.transfer.end (ap (λ (s : Standing). s.outside) (sym to))))
              (landing t to number))
          by false same =
              let other = ne_eqb x.number t.transfer.exit_number (λ e. eqb-false t.transfer.exit_number x.number same (sym e)) in
              subst (λ p. Whole p (code q))
              (sym (source ∙ ap (λ b. if b then land t.transfer.result t.transfer.landing r.state else record { outcome = exit t.transfer.exit_number t.transfer.result t.transfer.landing; state = r.state }) same
              ∙ ap (λ o. record { outcome = o; state = r.state }) (sym t.transfer.outcome)))
              (subst (λ p. Whole r p) (sym (cut_passes (length a.y.arena.blocks) rest catch q t.transfer.to.outside t.transfer.word t.transfer.end (passes_by t other))) (left_by (passing t other)))
      exit_ends (full_there f) =
          let g : Grown q.state (code q).state =
          landed_grown (length a.y.arena.blocks) catch (mid_go_on q rest) q.state (go_on_grown q rest q.state (same_grown q.state) rest_grows) catch_grows in
          subst (λ p. Whole p (code q)) (sym (landed_other setting x.number land land_grows r _ f.outcome tt))
          (full_there (record { asked = f.asked; left_then = f.left_then; outcome = f.outcome; printed = both_prefix f.printed (record { rest = g.printed.0; is = sym g.printed.1 }) }))
      exit_ends (stopped f) =
          let g = landed_grows setting x.number land land_grows r in
          subst (λ p. Whole (meant r) p) (sym (stop_passes (length a.y.arena.blocks) rest catch setting r q q.end refl f.because))
          (stopped (record {
            because = because_landed setting x.number land land_grows r q.end f.because;
            printed = both_prefix f.printed g.printed;
            paid = λ ended.
                let paid = f.paid (λ none. ended (because_landed setting x.number land land_grows r no_level none)) in
                omega (arith, paid, g.units, laid.paid, laid.units_there, enough);
          }))
      exit_ends (few_turns f) =
          let g = landed_grows setting x.number land land_grows r in
          let same = laid.world.same_size in
          let units_there = laid.units_there in
          few_turns (omega (arith, f, g.units, same, units_there))
