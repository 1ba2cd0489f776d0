-- Bytes are handed over.
use Rattle.std.proofs.Math.ListN.{drop_of_length-le}
use Rattle.std.proofs.Common.{◌≡◌, ℕ, ◌≤◌, true, List, [], ◌∷◌, ◌++◌, length, refl, ap, sym, ◌∙◌, subst}
use Rattle.eval_step.specs.declared.evaluator.Evaluator.{Evaluator}
use Rattle.eval_step.specs.Runs.{Stands}
use Rattle.eval_step.specs.Ports.{IsWritten, IsGivenBytes, IsAllRead}

all_of : (xs : List ℕ) → xs ≡ xs ++ []
all_of [] = refl
all_of (x ∷ xs) = ap (λ ys. x ∷ ys) (all_of xs)

pub handed_out : (old new : Evaluator) → new.printed.items ≡ [] → new ≡ record old { printed = new.printed } → IsWritten old new
handed_out old new none same = record {
  machine = ap (λ (e : Evaluator). e.machine) same;
  none = none;
  same = same;
  stands = λ names written unread b s. subst (λ e. Stands names e (written ++ old.printed.items) unread b) (sym same) (record {
    globals = s.globals;
    dynamics = s.dynamics;
    printed = s.printed ∙ all_of (written ++ old.printed.items) ∙ ap (λ xs. written ++ old.printed.items ++ xs) (sym none);
    at_start = s.at_start;
    input = s.input;
    ended = s.ended;
  });
}

-- where nothing is there, neither part has anything
behind : (xs ys : List ℕ) → xs ++ ys ≡ [] → ys ≡ []
behind [] ys e = e
behind (x ∷ xs) ys e = absurd (cc e)

pub handed_in : (old new : Evaluator) (bytes : List ℕ) → length old.ahead.items ≤ old.taken → new.ahead.items ≡ bytes
    → new ≡ record old { ahead = new.ahead; taken = 0 } → IsGivenBytes old new bytes
handed_in old new bytes all items same = record {
  machine = ap (λ (e : Evaluator). e.machine) same;
  ahead = items;
  taken = ap (λ (e : Evaluator). e.taken) same;
  same = same ∙ ap (λ n. record old { ahead = new.ahead; taken = n }) (sym (ap (λ (e : Evaluator). e.taken) same));
  stands = λ names written unread b s. subst (λ e. Stands names e written unread b) (sym same) (record {
    globals = s.globals;
    dynamics = s.dynamics;
    printed = s.printed;
    at_start = s.at_start;
    input = s.input ∙ ap (λ xs. xs ++ (bytes ++ unread)) (drop_of_length-le old.ahead.items all) ∙ ap (λ xs. xs ++ unread) (sym items);
    ended = λ e. behind bytes unread (s.ended e);
  });
}

pub handed_all : (e : Evaluator) → IsAllRead e (record e { ended = true })
handed_all e = record {
  machine = refl;
  ended = refl;
  same = refl;
  stands = λ names written b s. record {
    globals = s.globals;
    dynamics = s.dynamics;
    printed = s.printed;
    at_start = s.at_start;
    input = s.input;
    ended = λ h. refl;
  };
}
