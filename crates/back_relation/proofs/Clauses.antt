-- Clauses: the first one whose test is true.
use Rattle.std.proofs.Common.{◌≡◌, ℕ, ◌+◌, ◌*◌, ◌<◌, ◌≤◌, Bool, true, false, List, [], ◌∷◌, Option, Some, None, refl, sym, ap, ◌∙◌, subst, append_assoc, arith}
use Rattle.std.specs.Prelude.{slice_get, slice_set, ◌==◌, not, if◌then◌else◌}
use Rattle.lang_meaning.specs.declared.program.LiteralRow.{LiteralRow}
use Rattle.lang_meaning.specs.declared.program.LiteralRow.TheVariants as row
use Rattle.lang_meaning.specs.InitialHeap.{literal_value}
use Rattle.lang_meaning.specs.State.{DynamicContext}
use Rattle.lang_meaning.specs.Values.{Value, nil, is_true}
use Rattle.flat_language.specs.FlatForm.{FlatForm, literal, clauses, FlatClauses, no_clause, clause_and, FlatBody, no_body, with_body}
use Rattle.flat_language.specs.FlatMeaning.{mean, mean_literal, mean_clauses, mean_body, unless_nil}
use Rattle.flat_language.specs.FlatNodes.{count_clauses, tables}
use Rattle.flat_language.specs.FlatState.{FlatEnvironment, FlatState, FlatEvaluated, charged, gives, go_on}
use Rattle.mid_code.specs.declared.operation.Comparison.TheVariants.{Different}
use Rattle.mid_code.specs.declared.operation.Test.{Test}
use Rattle.mid_code.specs.Meaning.{exec}
use Rattle.mid_code.specs.MidCode.{MidStep, MidCode, no_step, choose, code_of}
use Rattle.mid_code.specs.State.{Registers, register, MidState, MidOutcome}
use Rattle.mid_code.specs.State.{charged as mid_charged}
use Rattle.mid_code.specs.Words.{compares}
use Rattle.mid_arena.specs.Places.{word_of}
use Rattle.mid_arena.specs.Tags.{nil_word}
use Rattle.mid_arena.proofs.Registers.{register_here, register_beside}
use Rattle.mid_arena.proofs.Running.{RunsTo, and_then, none_left, constant_falls, in_two_parts}
use Rattle.back_lowering.specs.Codes.{lower, lower_clauses, lower_clause, known_truth, truth_in}
use Rattle.back_lowering.specs.Placement.{literal_word}
use Rattle.back_lowering.specs.Steps.{Steps, constant, test_of}
use Rattle.back_relation.specs.Setting.{Setting}
use Rattle.back_relation.specs.Activation.{FormScope}
use Rattle.back_relation.specs.Forms.{judged_credit, context_at, code_at, value_code, judged}
use Rattle.back_relation.specs.FormLaws.{ClauseHere, ClausesHere, LawOfClauses}
use Rattle.back_relation.specs.Points.{Point, start_at, run, value_steps, Here}
use Rattle.back_relation.specs.Starts.{FlatGrown, Start, EndsAt, ReachedFrom}
use Rattle.back_relation.proofs.Choices.{choice, tested}
use Rattle.back_relation.proofs.FormGrowth.{form_grows}
use Rattle.back_relation.proofs.Growth.{same_flat, both_flat, then_grown}
use Rattle.back_relation.proofs.Judging.{truth_of_word}
use Rattle.back_relation.proofs.Parts.{single_step}
use Rattle.back_relation.proofs.Points.{point_after, charged_point, code_grows}
use Rattle.back_relation.proofs.Starts.{start_charged, ends_charged, ends_sparing, ends_spared, tests_spared, gives_run, given_already, two, behind, reached_set, reached_same}
use Rattle.back_relation.proofs.Then.{ends_judged}

picked_grows :
    (setting : Setting) (k : ℕ) (v : Value) (body : FlatBody) (cs : FlatClauses) (env : FlatEnvironment) (around : DynamicContext) (z : FlatState)
    → FlatGrown z (mean_clauses (context_at setting k) cs env around z).state
    → FlatGrown z (unless_nil v (mean_body (context_at setting k) v body env around z) (mean_clauses (context_at setting k) cs env around z)).state
unfolding mean
picked_grows setting k v body cs env around z g = by (is_true v) body
  where
    by :
        (b : Bool) → (body : FlatBody)
        → FlatGrown z (if b then (mean_body (context_at setting k) v body env around z) else (mean_clauses (context_at setting k) cs env around z)).state
    by true no_body = same_flat z
    by true (with_body f) = form_grows setting k f env around z
    by false body = g

pub clauses_grow :
    (setting : Setting) (k : ℕ) (cs : FlatClauses) (env : FlatEnvironment) (around : DynamicContext) (z : FlatState)
    → FlatGrown z (mean_clauses (context_at setting k) cs env around z).state
unfolding mean
clauses_grow setting k no_clause env around z = same_flat z
clauses_grow setting k (clause_and test body cs) env around z =
    both_flat (form_grows setting k test env around z)
    (then_grown (mean (context_at setting k) test env around z)
    (λ v x. unless_nil v (mean_body (context_at setting k) v body env around x) (mean_clauses (context_at setting k) cs env around x))
    (λ v x. picked_grows setting k v body cs env around x (clauses_grow setting k cs env around x)))

module _ (setting : Setting) (s : FormScope) (d m size k n : ℕ) where
  abbrev start : Point setting s d m size → Start setting
  start p = start_at setting s d m size n p

  abbrev running : Steps → Registers → MidState → MidOutcome
  running ss regs y = run setting s d m size k n ss regs y

  abbrev clauses_steps : FlatClauses → Steps
  clauses_steps cs = lower_clauses setting.names setting.at setting.program s.code d cs

  abbrev clauses_mean : FlatClauses → Point setting s d m size → FlatEvaluated
  clauses_mean cs p = mean_clauses (context_at setting k) cs p.env p.around p.z

  abbrev picked : Value → FlatBody → FlatClauses → FlatEnvironment → DynamicContext → FlatState → FlatEvaluated
  picked v body cs env around z = unless_nil v (mean_body (context_at setting k) v body env around z) (mean_clauses (context_at setting k) cs env around z)

  more_credit : {c1 c2 : ℕ} (a : Start setting) {r : FlatEvaluated} {q : MidOutcome} → c1 ≤ c2 → EndsAt setting c1 a r q → EndsAt setting c2 a r q
  more_credit {c1} a h e = behind setting {c1 = 0} {c2 = c1} a a.d (omega arith) (reached_same setting {credit = 0} a a.d) (omega arith) (omega arith) e

  -- where a test was made
  abbrev tested_point : Point setting s d m size → Point setting s d m size
  tested_point p = record {
    rs = p.rs;
    valid = p.valid;
    w = p.w;
    env = p.env;
    around = p.around;
    z = p.z;
    regs = p.regs;
    y = mid_charged 12 p.y;
    begins = (tested setting (start p)).begins;
    count = p.count;
  }

  -- so much clauses may cost beside their units
  abbrev clauses_credit : FlatClauses → ℕ
  clauses_credit cs = 40 * count_clauses cs + 10

  -- what the clauses behind one come to
  abbrev DoClauses : FlatClauses → Type 0
  DoClauses cs = (p : Point setting s d m size) → EndsAt setting (clauses_credit cs) (start p) (clauses_mean cs p) (running (clauses_steps cs) p.regs p.y)

  module _ (cs : FlatClauses) (others : DoClauses cs) where
    abbrev otherwise : MidCode
    otherwise = code_of (clauses_steps cs)

    others_up : (p : Point setting s d m size) → p.z.state.units ≤ (clauses_mean cs p).state.state.units
    others_up p = (clauses_grow setting k cs p.env p.around p.z).units

    -- a clause with a body, whose test was judged
    with_body_chosen :
        (f : FlatForm) → Here setting s d m size k n f → (p : Point setting s d m size) (v : Value) (t : Test) (a b : ℕ) → register t.first p.regs ≡ Some a
        → register t.second p.regs ≡ Some b → compares t.comparison a b ≡ is_true v
        → EndsAt setting (clauses_credit cs + 14) (start p) (picked v (with_body f) cs p.env p.around p.z)
        (running (choose t (value_code setting s d f) otherwise ∷ []) p.regs p.y)
    unfolding mean
    with_body_chosen f here p v t a b first second so =
        subst (λ q. EndsAt setting (clauses_credit cs + 14) (start p) (picked v (with_body f) cs p.env p.around p.z) q)
        (sym (single_step (code_at setting k n) (choose t (value_code setting s d f) otherwise) p.regs p.y))
        (choice setting {c1 = clauses_credit cs} (code_at setting k n) (start p) t (value_code setting s d f) otherwise a b (is_true v)
        (mean (context_at setting k) f p.env p.around p.z) (clauses_mean cs p) first second so (omega arith) (form_grows setting k f p.env p.around p.z).units (others_up p)
        (λ e. more_credit (start (tested_point p)) (omega arith) (ends_spared setting (start (tested_point p)) (here (tested_point p))))
        (λ e. others (tested_point p)))

    -- a clause without one, whose value is there
    no_body_chosen :
        (p : Point setting s d m size) (v : Value) (word : ℕ) → register d p.regs ≡ Some word → register (d + 1) p.regs ≡ Some nil_word
        → word_of p.w.places v ≡ Some word
        → EndsAt setting (clauses_credit cs + 14) (start p) (picked v no_body cs p.env p.around p.z)
        (running (choose (test_of Different d (d + 1)) no_step otherwise ∷ []) p.regs p.y)
    unfolding mean exec
    no_body_chosen p v word here nil_here is =
        subst (λ q. EndsAt setting (clauses_credit cs + 14) (start p) (picked v no_body cs p.env p.around p.z) q)
        (sym (single_step (code_at setting k n) (choose (test_of Different d (d + 1)) no_step otherwise) p.regs p.y))
        (choice setting {c1 = clauses_credit cs} (code_at setting k n) (start p) (test_of Different d (d + 1)) no_step otherwise word nil_word (is_true v)
        (gives v p.z) (clauses_mean cs p) here nil_here (truth_of_word setting p.begins.call.things v word is) (omega arith) (omega arith) (others_up p)
        (λ e. given_already setting (start (tested_point p)) v word here is)
        (λ e. others (tested_point p)))

    -- nil's word comes behind the value
    no_body_judged :
        (there : d + 1 < size) (p : Point setting s d m size) (v : Value) (word : ℕ) → register d p.regs ≡ Some word → word_of p.w.places v ≡ Some word
        → EndsAt setting (clauses_credit cs + 20) (start p) (picked v no_body cs p.env p.around p.z)
        (running (constant (d + 1) nil_word ∷ choose (test_of Different d (d + 1)) no_step otherwise ∷ []) p.regs p.y)
    no_body_judged there p v word here is =
        let x : ReachedFrom setting 6 (start p) d p.w p.z (slice_set p.regs (d + 1) (Some nil_word)) (mid_charged 6 p.y) =
        reached_set setting (start p) d (d + 1) nil_word 6 (omega arith) (omega arith) (omega arith) in
        let runs : RunsTo (code_at setting k n) (code_of (constant (d + 1) nil_word ∷ choose (test_of Different d (d + 1)) no_step otherwise ∷ [])) p.regs p.y
        (running (choose (test_of Different d (d + 1)) no_step otherwise ∷ []) (slice_set p.regs (d + 1) (Some nil_word)) (mid_charged 6 p.y)) =
        and_then constant_falls (record { same = refl }) in
        subst (λ q. EndsAt setting (clauses_credit cs + 20) (start p) (picked v no_body cs p.env p.around p.z) q) (sym runs.same)
        (behind setting {c1 = 6} {c2 = clauses_credit cs + 14} (start p) d (omega arith) x (omega arith) (omega arith)
        (no_body_chosen (point_after setting s d m size n p x) v word (register_beside p.regs (d + 1) d (Some nil_word) (λ e. omega arith) ∙ here)
        (register_here p.regs (d + 1) nil_word (omega (arith, there, p.count))) is))

  -- what a test that is known comes to, for a unit, and whether it is true
  record KnownTest (p : Point setting s d m size) (test : FlatForm) (b : Bool) : Type 0 where
    result : Value
    meant : mean (context_at setting k) test p.env p.around p.z ≡ gives result (charged 1 p.z)
    truth : is_true result ≡ b

  known_test :
      (test : FlatForm) (b : Bool) → known_truth setting.at setting.program.literals test ≡ Some b → (p : Point setting s d m size) → KnownTest p test b
  unfolding mean
  known_test (literal i) b e p = by (slice_get setting.program.literals i) refl
    where
      by : (o : Option LiteralRow) → slice_get setting.program.literals i ≡ o → KnownTest p (literal i) b
      by (Some (row.Datum x)) there =
          let v : Value = literal_value setting.names (tables setting.program) i x in
          let known : Some (not (literal_word setting.at i == nil_word)) ≡ Some b = sym (ap (λ o. truth_in setting.at i o) there) ∙ e in
          let same : not (literal_word setting.at i == nil_word) ≡ b = cc known in
          record {
            result = v;
            meant = ap (λ o. mean_literal (context_at setting k) i o p.around (charged 1 p.z)) there;
            truth =
                sym (truth_of_word setting p.begins.call.things v (literal_word setting.at i) (p.begins.call.things.literals i (row.Datum x) there)) ∙ same;
          }
      by other there = absurd (cc (sym (ap (λ o. truth_in setting.at i o) there) ∙ e))
  known_test other b e p = absurd (cc e)

  -- so clauses mean what is left of them
  clauses_known :
      (test : FlatForm) (body : FlatBody) (cs : FlatClauses) (b : Bool) (p : Point setting s d m size) (t : KnownTest p test b)
      → clauses_mean (clause_and test body cs) p
      ≡ (if b then mean_body (context_at setting k) t.result body p.env p.around (charged 1 p.z)
      else mean_clauses (context_at setting k) cs p.env p.around (charged 1 p.z))
  unfolding mean
  clauses_known test body cs b p t =
      ap (λ r. go_on r (λ v z. picked v body cs p.env p.around z)) t.meant
      ∙ ap (λ x. if x then mean_body (context_at setting k) t.result body p.env p.around (charged 1 p.z)
      else mean_clauses (context_at setting k) cs p.env p.around (charged 1 p.z)) t.truth

  abbrev clause_steps : (known : Option Bool) (test : FlatForm) → FlatBody → FlatClauses → Steps
  clause_steps known test body cs =
      lower_clause setting.names setting.at setting.program s.code d known (lower setting.names setting.at setting.program s.code d test) body (clauses_steps cs)

  -- a clause in front of others
  clause_sim :
      (known : Option Bool) (test : FlatForm) (body : FlatBody) (cs : FlatClauses) → known_truth setting.at setting.program.literals test ≡ known
      → ClauseHere setting s d m size k n known test body (ClausesHere setting s d m size k n cs) → (ClausesHere setting s d m size k n cs → DoClauses cs)
      → (p : Point setting s d m size)
      → EndsAt setting (clauses_credit (clause_and test body cs)) (start p) (clauses_mean (clause_and test body cs) p)
      (running (clause_steps known test body cs) p.regs p.y)
  unfolding mean lower
  clause_sim (Some true) test no_body cs e here others p =
      let t = known_test test true e p in
      subst (λ r. EndsAt setting (clauses_credit (clause_and test no_body cs)) (start p) r (running (value_steps setting s d m size k n test) p.regs p.y))
      (t.meant ∙ sym (clauses_known test no_body cs true p t))
      (more_credit (start p) (omega arith) (ends_spared setting (start p) (here p)))
  clause_sim (Some true) test (with_body f) cs e here others p =
      let t = known_test test true e p in
      let after : Point setting s d m size = charged_point setting s d m size n p in
      subst (λ r. EndsAt setting (clauses_credit (clause_and test (with_body f) cs)) (start p) r (running (value_steps setting s d m size k n f) p.regs p.y))
      (sym (clauses_known test (with_body f) cs true p t))
      (ends_charged setting {c1 = 0} (start p) 1 (omega arith) (ends_spared setting (start after) (here after)))
  clause_sim (Some false) test body cs e here others p =
      let t = known_test test false e p in
      subst (λ r. EndsAt setting (clauses_credit (clause_and test body cs)) (start p) r (running (clauses_steps cs) p.regs p.y))
      (sym (clauses_known test body cs false p t))
      (ends_charged setting {c1 = clauses_credit cs} (start p) 1 (omega arith) (others here (charged_point setting s d m size n p)))
  clause_sim None test (with_body f) cs e h others p =
      let rest : List MidStep = choose (judged setting s d test).test (value_code setting s d f) (code_of (clauses_steps cs)) ∷ [] in
      subst (λ q. EndsAt setting (clauses_credit (clause_and test (with_body f) cs)) (start p) (clauses_mean (clause_and test (with_body f) cs) p) q)
      (sym (in_two_parts (code_at setting k n) (judged setting s d test).ready rest p.regs p.y))
      (ends_judged setting {c1 = judged_credit} {c2 = clauses_credit cs + 14} (λ v z. picked v (with_body f) cs p.env p.around z) (λ g y. running rest g y)
      (omega arith) (omega arith) (form_grows setting k test p.env p.around p.z).units (tests_spared setting (start p) (h.0 p))
      (λ v z. picked_grows setting k v (with_body f) cs p.env p.around z (clauses_grow setting k cs p.env p.around z))
      (λ g y. code_grows setting s d m size k n rest g y)
      (λ x.
      with_body_chosen cs (others h.2) f h.1 (point_after setting s d m size n p x.reached) x.result (judged setting s d test).test x.first x.second
      x.first_word x.second_word x.judged))
  clause_sim None test no_body cs e h others p =
      let rest : List MidStep = constant (d + 1) nil_word ∷ choose (test_of Different d (d + 1)) no_step (code_of (clauses_steps cs)) ∷ [] in
      subst (λ q. EndsAt setting (clauses_credit (clause_and test no_body cs)) (start p) (clauses_mean (clause_and test no_body cs) p) q)
      (sym (ap (λ ss. running ss p.regs p.y)
      (append_assoc (value_steps setting s d m size k n test) (constant (d + 1) nil_word ∷ [])
      (choose (test_of Different d (d + 1)) no_step (code_of (clauses_steps cs)) ∷ []))
      ∙ in_two_parts (code_at setting k n) (value_steps setting s d m size k n test) rest p.regs p.y))
      (two setting {c1 = 0} {c2 = clauses_credit cs + 20} (start p) d (λ v z. picked v no_body cs p.env p.around z) (λ g y. running rest g y)
      (omega arith) (omega arith) (form_grows setting k test p.env p.around p.z).units (ends_spared setting (start p) (h.1 p))
      (λ v z. picked_grows setting k v no_body cs p.env p.around z (clauses_grow setting k cs p.env p.around z))
      (λ g y. code_grows setting s d m size k n rest g y)
      (λ x. no_body_judged cs (others h.2) h.0 (point_after setting s d m size n p x.reached) x.result x.word x.in_register x.of_value))

  clauses_sim : (cs : FlatClauses) → ClausesHere setting s d m size k n cs → DoClauses cs
  unfolding mean lower
  clauses_sim no_clause h p = gives_run setting (start p) nil (omega arith) refl (and_then constant_falls none_left)
  clauses_sim (clause_and test body cs) h p =
      clause_sim (known_truth setting.at setting.program.literals test) test body cs refl h (λ here. clauses_sim cs here) p

  -- **clauses**
  pub clauses_here : (cs : FlatClauses) → ClausesHere setting s d m size k n cs → Here setting s d m size k n (clauses cs)
  unfolding mean lower
  clauses_here cs h p =
      ends_sparing setting {c1 = clauses_credit cs} (start p) (1 + count_clauses cs) (omega arith) (omega arith)
      (clauses_sim cs h (record {
        rs = p.rs;
        valid = p.valid;
        w = p.w;
        env = p.env;
        around = p.around;
        z = charged (1 + count_clauses cs) p.z;
        regs = p.regs;
        y = p.y;
        begins = (start_charged setting (start p) (1 + count_clauses cs)).begins;
        count = p.count;
      }))

pub clauses_law : LawOfClauses
clauses_law setting s d m size k turns cs here = clauses_here setting s d m size k turns cs here
