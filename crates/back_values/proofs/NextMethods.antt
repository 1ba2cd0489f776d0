-- Whether a method is left: the first word of the rest of the chain tells.
use Rattle.std.proofs.Common.{◌≡◌, ◌⊎◌, inl, inr, ℕ, ◌+◌, ◌%◌, ◌^◌, ◌<◌, ◌≤◌, false, List, [], ◌∷◌, ◌++◌, length, Option, Some, None, refl, sym, ap, ◌∙◌, subst, arith}
use Rattle.std.specs.Prelude.{slice_get, slice_set}
use Rattle.std.proofs.lemmas.Bool.{eq-eqb, ne_eqb}
use Rattle.std.proofs.lemmas.Option.{slice_get_within}
use Rattle.std.proofs.Math.ListN.{length-set}
use Rattle.lang_meaning.specs.Meaning.{is_next}
use Rattle.lang_meaning.specs.Objects.{Called}
use Rattle.lang_meaning.specs.Values.{Value, truth}
use Rattle.flat_language.specs.declared.place.MethodPlace.{MethodPlace}
use Rattle.flat_language.specs.FlatForm.{has_next}
use Rattle.flat_language.specs.FlatMeaning.{mean}
use Rattle.flat_language.specs.FlatStanding.{MethodStands}
use Rattle.flat_language.specs.FlatState.{FlatState, method_of, charged, gives}
use Rattle.mid_code.specs.Arena.{word_at}
use Rattle.mid_code.specs.Meaning.{Context, exec}
use Rattle.mid_code.specs.MidCode.{code_of}
use Rattle.mid_code.specs.State.{Registers, register, falls, ends, MidState}
use Rattle.mid_code.specs.State.{charged as mid_charged}
use Rattle.mid_arena.specs.FixedWords.{true_address}
use Rattle.mid_arena.specs.Places.{of_other, word_of}
use Rattle.mid_arena.specs.Tags.{nil_word}
use Rattle.mid_arena.proofs.Lists.{set_elsewhere}
use Rattle.mid_arena.proofs.Memory.{spot_low}
use Rattle.mid_arena.proofs.Registers.{register_here, register_beside}
use Rattle.mid_arena.proofs.Running.{RunsTo, and_then, none_left, constant_falls, load_falls, choose_first_falls, choose_second_falls, address_here, parts_then}
use Rattle.back_lowering.specs.Codes.{lower, method_into, has_next_code}
use Rattle.back_lowering.specs.ControlWords.{chain_end}
use Rattle.back_lowering.specs.Registers.{of_code, enough_for}
use Rattle.back_lowering.specs.Steps.{Steps, constant, load, if_equal, load_from}
use Rattle.back_relation.specs.Setting.{Setting, ConstantAt, ConstantsAt}
use Rattle.back_relation.specs.Worlds.{World}
use Rattle.back_relation.specs.Ends.{done, form_credit}
use Rattle.back_relation.specs.Chains.{chain_words}
use Rattle.back_relation.specs.Activation.{FormScope, MethodHeld}
use Rattle.back_relation.specs.Forms.{code_at}
use Rattle.back_relation.specs.Points.{Point, start_at, Here}
use Rattle.back_relation.specs.Starts.{Start, EndsAt, ReachedFrom}
use Rattle.back_relation.proofs.Fitting.{registers_front, registers_behind}
use Rattle.back_relation.proofs.Starts.{start_charged, ends_sparing}
use Rattle.back_values.proofs.Words.{has_first}
use Rattle.back_values.proofs.Globals.{reached_registers}
use Rattle.back_values.specs.Variables.{CapturedByFunctions}
use Rattle.back_values.proofs.Far.{load_from_runs}
use Rattle.back_values.specs.Methods.{LawOfNextMethods, LawOfWholeNextMethods}
use Rattle.back_values.proofs.MethodPlaces.{method_places_law}
use Rattle.back_values.proofs.Wholes.{point, step_fits, points_known}
use Rattle.back_values.specs.Wholes.{PointsKnown}

-- ---- the first word of a chain

abbrev Which : (primary : List ℕ) → (word : ℕ) → Type 0
Which primary word = ((primary ≡ []) × (word ≡ chain_end)) ⊎ (((p : ℕ) × ((ps : List ℕ) × (primary ≡ p ∷ ps))) × (word ≡ chain_end → ⊥))

record FirstWord (setting : Setting) (address : ℕ) (primary : List ℕ) : Type 0 where
  pub word : ℕ
  pub stands : ConstantAt setting address word
  pub which : Which primary word

no_list : (x : ℕ) (xs : List ℕ) → x ∷ xs ≡ [] → ⊥
no_list x xs e = absurd (cc e)

first_word :
    (setting : Setting) (address : ℕ) (ar be af pr : List ℕ) → ConstantsAt setting address (chain_words (record { around = ar; before = be; primary = pr; after = af }))
    → (pr ≡ [] → (ar ≡ []) × (be ≡ []) × (af ≡ [])) → FirstWord setting address pr
first_word setting address ar be af (p ∷ ps) h none =
    let f = has_first (record { around = ar; before = be; primary = p ∷ ps; after = af }) (λ e. no_list p ps e) in
    let words : ConstantsAt setting address (f.first ∷ f.others) = subst (λ l. ConstantsAt setting address l) f.is h in
    record { word = f.first; stands = words.0; which = inr ((p, (ps, refl)), λ e. f.no_end (ap (λ w. w % 8) e)) }
first_word setting address [] [] [] [] h none = record { word = chain_end; stands = h.0; which = inl (refl, refl) }
first_word setting address (a ∷ ar) be af [] h none = absurd (no_list a ar (none refl).0)
first_word setting address [] (b ∷ be) af [] h none = absurd (no_list b be (none refl).1)
first_word setting address [] [] (x ∷ af) [] h none = absurd (no_list x af (none refl).2)

next_is : (called : Called) (l : List ℕ) → called.rest.primary ≡ l → is_next (Some called) ≡ is_next (Some (record called { rest = record called.rest { primary = l } }))
next_is called l e = ap (λ (x : List ℕ). is_next (Some (record called { rest = record called.rest { primary = x } }))) e

module _ (setting : Setting) (s : FormScope) (d m size k turns : ℕ) (q : Point setting s d m size) (regs : Registers) (spent : ℕ) (count : length regs ≡ size) (there : d + 1 < size) where
  abbrev con : Context
  con = code_at setting k turns

  abbrev y0 : MidState
  y0 = mid_charged spent q.y

  abbrev nil_steps : Steps
  nil_steps = constant d nil_word ∷ []

  abbrev true_steps : Steps
  true_steps = load_from d d true_address

  abbrev look_steps : Steps
  look_steps = load d d 0 ∷ constant (d + 1) chain_end ∷ if_equal d (d + 1) nil_steps true_steps ∷ []

  abbrev next_steps : Steps
  next_steps = constant (d + 1) 0 ∷ if_equal d (d + 1) nil_steps look_steps ∷ []

  pub record Answered (called : Option Called) : Type 0 where
    pub word : ℕ
    pub is : word_of q.w.places (truth (is_next called)) ≡ Some word
    pub after : Registers
    pub many : length after ≡ size
    pub below : (i : ℕ) → i < d → slice_get after i ≡ slice_get regs i
    pub here : register d after ≡ Some word
    pub cost : ℕ
    pub within : cost ≤ 90
    pub run : exec con (code_of next_steps) regs y0 ≡ ends falls after (mid_charged (spent + cost) q.y)

  abbrev regs1 : Registers
  regs1 = slice_set regs (d + 1) (Some 0)

  count1 : length regs1 ≡ size
  count1 = length-set regs (d + 1) (Some 0) ∙ count

  second1 : register (d + 1) regs1 ≡ Some 0
  second1 = register_here regs (d + 1) 0 (omega (arith, there, count))

  first1 : (x : ℕ) → register d regs ≡ Some x → register d regs1 ≡ Some x
  first1 x e = register_beside regs (d + 1) d (Some 0) (λ at. omega (arith, at)) ∙ e

  answered_nil : register d regs ≡ Some 0 → Answered None
  answered_nil e =
      let after : Registers = slice_set regs1 d (Some nil_word) in
      let run = and_then {c = con} {rs = regs} {z = y0} constant_falls
      (and_then (choose_first_falls (first1 0 e) second1 (eq-eqb 0 0 refl) (and_then constant_falls none_left)) none_left) in
      let cost : q.y.cost + spent + 6 + 12 + 6 + 2 ≡ q.y.cost + (spent + 26) = omega arith in
      record {
        word = nil_word;
        is = refl;
        after = after;
        many = length-set regs1 d (Some nil_word) ∙ count1;
        below = λ i few. set_elsewhere regs1 d i (Some nil_word) (λ at. omega (arith, at, few)) ∙ set_elsewhere regs (d + 1) i (Some 0) (λ at. omega (arith, at, few));
        here = register_here regs1 d nil_word (omega (arith, there, count1));
        cost = 26;
        within = omega arith;
        run = run.same ∙ ap (λ x. ends falls after (record q.y { cost = x })) cost;
      }

  -- the word of the chain at an address that is in d
  module _ (called : Called) (chain word : ℕ) (here : register d regs ≡ Some chain) (some : 1 ≤ chain) (low : chain < 2 ^ 32) (at : word_at q.y.arena chain ≡ Some word) where
    abbrev regs2 : Registers
    regs2 = slice_set regs1 d (Some word)

    abbrev regs3 : Registers
    regs3 = slice_set regs2 (d + 1) (Some chain_end)

    count2 : length regs2 ≡ size
    count2 = length-set regs1 d (Some word) ∙ count1

    count3 : length regs3 ≡ size
    count3 = length-set regs2 (d + 1) (Some chain_end) ∙ count2

    first3 : register d regs3 ≡ Some word
    first3 = register_beside regs2 (d + 1) d (Some chain_end) (λ e. omega (arith, e)) ∙ register_here regs1 d word (omega (arith, there, count1))

    second3 : register (d + 1) regs3 ≡ Some chain_end
    second3 = register_here regs2 (d + 1) chain_end (omega (arith, there, count2))

    below4 : (x i : ℕ) → i < d → slice_get (slice_set regs3 d (Some x)) i ≡ slice_get regs i
    below4 x i few =
        set_elsewhere regs3 d i (Some x) (λ e. omega (arith, e, few)) ∙ set_elsewhere regs2 (d + 1) i (Some chain_end) (λ e. omega (arith, e, few))
        ∙ set_elsewhere regs1 d i (Some word) (λ e. omega (arith, e, few)) ∙ set_elsewhere regs (d + 1) i (Some 0) (λ e. omega (arith, e, few))

    at_end : called.rest.primary ≡ [] → word ≡ chain_end → Answered (Some called)
    at_end none e =
        let after : Registers = slice_set regs3 d (Some nil_word) in
        let run = and_then {c = con} {rs = regs} {z = y0} constant_falls
        (and_then
        (choose_second_falls (first1 chain here) second1 (ne_eqb chain 0 (λ e'. omega (arith, e', some)))
        (and_then (load_falls (first1 chain here) (address_here chain low) at)
        (and_then constant_falls (and_then (choose_first_falls first3 second3 (eq-eqb word chain_end e) (and_then constant_falls none_left)) none_left))))
        none_left) in
        let cost : q.y.cost + spent + 6 + 12 + 8 + 6 + 12 + 6 + 2 + 2 ≡ q.y.cost + (spent + 54) = omega arith in
        record {
          word = nil_word;
          is = ap (λ b. word_of q.w.places (truth b)) (next_is called [] none);
          after = after;
          many = length-set regs3 d (Some nil_word) ∙ count3;
          below = below4 nil_word;
          here = register_here regs3 d nil_word (omega (arith, there, count3));
          cost = 54;
          within = omega arith;
          run = run.same ∙ ap (λ x. ends falls after (record q.y { cost = x })) cost;
        }

    not_at_end : (p : ℕ) (ps : List ℕ) → called.rest.primary ≡ p ∷ ps → (word ≡ chain_end → ⊥) → Answered (Some called)
    not_at_end p ps is other =
        let t = q.begins.call.things.represents.fixed.true_value in
        let spent3 : ℕ = spent + 44 in
        let y3 : MidState = mid_charged spent3 q.y in
        let l = load_from_runs con regs3 y3 d true_address t.word (omega (arith, there, count3)) (omega arith) t.stands in
        let few = l.within in
        let after : Registers = slice_set regs3 d (Some t.word) in
        let before : q.y.cost + spent + 6 + 12 + 8 + 6 + 12 ≡ q.y.cost + spent3 = omega arith in
        let inner : RunsTo con (code_of true_steps) regs3 (record q.y { cost = q.y.cost + spent + 6 + 12 + 8 + 6 + 12 }) (ends falls after (mid_charged l.cost y3)) =
        record { same = ap (λ x. exec con (code_of true_steps) regs3 (record q.y { cost = x })) before ∙ l.run.same } in
        let run = and_then {c = con} {rs = regs} {z = y0} constant_falls
        (and_then
        (choose_second_falls (first1 chain here) second1 (ne_eqb chain 0 (λ e'. omega (arith, e', some)))
        (and_then (load_falls (first1 chain here) (address_here chain low) at)
        (and_then constant_falls (and_then (choose_second_falls first3 second3 (ne_eqb word chain_end other) inner) none_left))))
        none_left) in
        let total : ℕ = 44 + l.cost + 4 in
        let cost : q.y.cost + spent3 + l.cost + 2 + 2 ≡ q.y.cost + (spent + total) = omega arith in
        record {
          word = t.word;
          is = ap (λ b. word_of q.w.places (truth b)) (next_is called (p ∷ ps) is) ∙ t.of_value;
          after = after;
          many = length-set regs3 d (Some t.word) ∙ count3;
          below = below4 t.word;
          here = register_here regs3 d t.word (omega (arith, there, count3));
          cost = total;
          within = omega (arith, few);
          run = run.same ∙ ap (λ x. ends falls after (record q.y { cost = x })) cost;
        }

  -- a word behind all objects
  constant_at : (address word : ℕ) → ConstantAt setting address word → (address < 2 ^ 26) × (word_at q.y.arena address ≡ Some word)
  constant_at address word h =
      let t = q.begins.call.things in
      let old = t.further h.number word h.found in
      let end = spot_low t.represents.arena (t.represents.spots (of_other 2) _ old.0) in
      let few = slice_get_within setting.further h.number word h.found in
      let here = h.here in
      (omega (arith, end, few, here), subst (λ x. word_at q.y.arena x ≡ Some word) (sym here) old.1)

  answered : (called : Option Called) → MethodHeld setting q.w q.y.arena false regs (Some d) called → Answered called
  answered None h = answered_nil h.2
  answered (Some called) h =
      let c = called.rest in
      let first = first_word setting h.chain c.around c.before c.after c.primary h.chain_stands.words h.chain_stands.no_other in
      let at = constant_at h.chain first.word first.stands in
      let low = at.0 in
      by first.word at.1 (omega (arith, low)) first.which
    where
      by : (word : ℕ) → word_at q.y.arena h.chain ≡ Some word → h.chain < 2 ^ 32 → Which called.rest.primary word → Answered (Some called)
      by word at low (inl e) = at_end called h.chain word h.chain_word h.chain_stands.some low at e.0 e.1
      by word at low (inr e) = not_at_end called h.chain word h.chain_word h.chain_stands.some low at e.0.0 e.0.1.0 e.0.1.1 e.1

-- code fell out where a value is there
fell_there :
    (setting : Setting) (a : Start setting) {w : World} {z : FlatState} {regs : Registers} {y : MidState} → ReachedFrom setting 200 a a.d w z regs y → (v : Value) (word : ℕ)
    → register a.d regs ≡ Some word → word_of w.places v ≡ Some word → EndsAt setting form_credit a (gives v z) (ends falls regs y)
fell_there setting a {w} {z} {regs} {y} r v word e is = done (record {
  result = v;
  outcome = refl;
  end = refl;
  w' = w;
  reached = record {
    kept = r.kept;
    back = record { control = r.back.control; blocks = r.back.blocks; charged = r.back.charged; paid = let paid = r.back.paid in omega (arith, paid) };
  };
  word = word;
  in_register = e;
  of_value = is;
})

module _ (setting : Setting) (s : FormScope) (d m size k turns : ℕ) (p : MethodPlace) (stands : MethodStands s.flat p) (known : (q : Point setting s d m size) → CapturedByFunctions q.z) where
  abbrev start : Point setting s d m size → Start setting
  start q = start_at setting s d m size turns q

  pub next_here :
      enough_for (of_code (code_of (has_next_code setting.names setting.at setting.program s.code d p))) ≤ size → Here setting s d m size k turns (has_next p)
  unfolding mean lower
  next_here fits q =
      let a : Start setting = start_charged setting (start q) 1 in
      let b : Point setting s d m size = record {
        rs = q.rs;
        valid = q.valid;
        w = q.w;
        env = q.env;
        around = q.around;
        z = charged 1 q.z;
        regs = q.regs;
        y = q.y;
        begins = a.begins;
        count = q.count;
      } in
      let loaded : Steps = method_into setting.names setting.at setting.program s.code d p in
      let look : Steps =
      load d d 0 ∷ constant (d + 1) chain_end ∷ if_equal d (d + 1) (constant d nil_word ∷ []) (load_from d d true_address) ∷ [] in
      let choice : Steps = if_equal d (d + 1) (constant d nil_word ∷ []) look ∷ [] in
      let tail : Steps = constant (d + 1) 0 ∷ choice in
      let one = step_fits (constant (d + 1) 0) choice size (registers_behind loaded tail size fits) in
      let there : d + 1 < size = omega (arith, one) in
      let l = method_places_law setting s d m size k turns p b stands (known b) (registers_front loaded tail size fits) in
      let few = l.within in
      let x = answered setting s d m size k turns b l.after l.cost l.count there (method_of p q.env) l.held in
      let few' = x.within in
      let all : RunsTo (code_at setting k turns) (code_of (loaded ++ tail)) q.regs q.y (ends falls x.after (mid_charged (l.cost + x.cost) q.y)) =
      parts_then loaded tail (record { same = l.run }) (record { same = x.run }) in
      let r = reached_registers setting {credit = 200} (start b) x.after (l.cost + x.cost) (x.many ∙ sym q.count) (λ i low. x.below i low ∙ l.below i low) (omega (arith, few, few')) in
      ends_sparing setting {c1 = form_credit} (start q) 1 (omega arith) (omega arith)
      (subst (λ o. EndsAt setting form_credit (start b) (gives (truth (is_next (method_of p q.env))) (charged 1 q.z)) o) (sym all.same)
      (fell_there setting (start b) r (truth (is_next (method_of p q.env))) x.word x.here x.is))

pub next_methods_law : LawOfNextMethods
next_methods_law setting s d m size k turns p stands known fits = next_here setting s d m size k turns p stands known fits

pub whole_next_methods : LawOfWholeNextMethods
unfolding lower
whole_next_methods setting k turns p rs valid s d n first w env around z regs y stands begins registers words =
    let known : PointsKnown setting = points_known setting in
    next_here setting s d n (length regs) k turns p stands.stands (known.functions s d n (length regs)) registers (point setting k turns rs valid s d n w env around z regs y begins)
