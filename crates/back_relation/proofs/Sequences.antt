-- Forms in order.
use Rattle.std.proofs.Common.{◌≡◌, ℕ, Some, refl, sym, subst, arith}
use Rattle.lang_meaning.specs.State.{DynamicContext}
use Rattle.lang_meaning.specs.Values.{Value, nil}
use Rattle.flat_language.specs.FlatForm.{sequence, FlatForms, no_form, form_and}
use Rattle.flat_language.specs.FlatMeaning.{mean, mean_sequence}
use Rattle.flat_language.specs.FlatState.{FlatEnvironment, FlatState, charged}
use Rattle.mid_code.specs.Meaning.{exec}
use Rattle.mid_code.specs.State.{register}
use Rattle.mid_arena.specs.Places.{word_of}
use Rattle.mid_arena.proofs.Running.{and_then, none_left, constant_falls, in_two_parts}
use Rattle.back_lowering.specs.Codes.{lower, lower_behind}
use Rattle.back_lowering.specs.Steps.{Steps}
use Rattle.back_relation.specs.Setting.{Setting}
use Rattle.back_relation.specs.Activation.{FormScope}
use Rattle.back_relation.specs.Ends.{form_credit}
use Rattle.back_relation.specs.Forms.{context_at, code_at}
use Rattle.back_relation.specs.FormLaws.{LawOfSequences}
use Rattle.back_relation.specs.Starts.{FlatGrown, Start, EndsAt}
use Rattle.back_relation.proofs.FormGrowth.{form_grows}
use Rattle.back_relation.proofs.Growth.{same_flat, both_flat, then_grown}
use Rattle.back_relation.specs.Points.{Point, start_at, run, value_steps, Here, AllHere}
use Rattle.back_relation.proofs.Points.{point_after, charged_point, code_grows}
use Rattle.back_relation.proofs.Starts.{start_charged, ends_sparing, ends_spared, gives_run, given_already, two}

pub sequence_grows :
    (setting : Setting) (k : ℕ) (v : Value) (fs : FlatForms) (env : FlatEnvironment) (around : DynamicContext) (z : FlatState)
    → FlatGrown z (mean_sequence (context_at setting k) v fs env around z).state
unfolding mean
sequence_grows setting k v no_form env around z = same_flat z
sequence_grows setting k v (form_and f fs) env around z =
    both_flat (form_grows setting k f env around z)
    (then_grown (mean (context_at setting k) f env around z) (λ x y. mean_sequence (context_at setting k) x fs env around y) (λ x y. sequence_grows setting k x fs env around y))

module _ (setting : Setting) (s : FormScope) (d m size k n : ℕ) where
  abbrev start : Point setting s d m size → Start setting
  start p = start_at setting s d m size n p

  abbrev behind_steps : FlatForms → Steps
  behind_steps fs = lower_behind setting.names setting.at setting.program s.code d fs

  -- forms behind one whose value is there
  pub behind_sim :
      {credit : ℕ} (fs : FlatForms) → AllHere setting s d m size k n fs → (p : Point setting s d m size) (v : Value) (word : ℕ) → register d p.regs ≡ Some word
      → word_of p.w.places v ≡ Some word
      → EndsAt setting credit (start p) (mean_sequence (context_at setting k) v fs p.env p.around p.z) (run setting s d m size k n (behind_steps fs) p.regs p.y)
  unfolding mean lower exec
  behind_sim no_form h p v word e is = given_already setting (start p) v word e is
  behind_sim {credit} (form_and f fs) h p v word e is =
      subst (λ q. EndsAt setting credit (start p) (mean_sequence (context_at setting k) v (form_and f fs) p.env p.around p.z) q)
      (sym (in_two_parts (code_at setting k n) (value_steps setting s d m size k n f) (behind_steps fs) p.regs p.y))
      (two setting {c1 = 0} {c2 = credit} (start p) d (λ x y. mean_sequence (context_at setting k) x fs p.env p.around y)
      (λ g y. run setting s d m size k n (behind_steps fs) g y) (omega arith) (omega arith) (form_grows setting k f p.env p.around p.z).units (ends_spared setting (start p) (h.0 p))
      (λ x y. sequence_grows setting k x fs p.env p.around y) (λ g y. code_grows setting s d m size k n (behind_steps fs) g y)
      (λ x. behind_sim fs h.1 (point_after setting s d m size n p x.reached) x.result x.word x.in_register x.of_value))

  -- **forms in order**
  pub sequence_sim : (fs : FlatForms) → AllHere setting s d m size k n fs → Here setting s d m size k n (sequence fs)
  unfolding mean lower
  sequence_sim no_form h p =
      ends_sparing setting {c1 = form_credit} (start p) 1 (omega arith) (omega arith)
      (gives_run setting {credit = form_credit} (start_charged setting (start p) 1) nil (omega arith) refl (and_then constant_falls none_left))
  sequence_sim (form_and f fs) h p =
      ends_sparing setting {c1 = form_credit} (start p) 1 (omega arith) (omega arith)
      (subst (λ q. EndsAt setting form_credit (start_charged setting (start p) 1) (mean_sequence (context_at setting k) nil (form_and f fs) p.env p.around (charged 1 p.z)) q)
      (sym (in_two_parts (code_at setting k n) (value_steps setting s d m size k n f) (behind_steps fs) p.regs p.y))
      (two setting {c1 = 0} {c2 = form_credit} (start_charged setting (start p) 1) d (λ x y. mean_sequence (context_at setting k) x fs p.env p.around y)
      (λ g y. run setting s d m size k n (behind_steps fs) g y) (omega arith) (omega arith) (form_grows setting k f p.env p.around (charged 1 p.z)).units (ends_spared setting (start (charged_point setting s d m size n p)) (h.0 (charged_point setting s d m size n p)))
      (λ x y. sequence_grows setting k x fs p.env p.around y) (λ g y. code_grows setting s d m size k n (behind_steps fs) g y)
      (λ x. behind_sim fs h.1 (point_after setting s d m size n (charged_point setting s d m size n p) x.reached) x.result x.word x.in_register x.of_value)))

pub sequences_law : LawOfSequences
sequences_law setting s d m size k turns fs here = sequence_sim setting s d m size k turns fs here
