-- The innermost handler.
use Rattle.std.proofs.Common.{◌≡◌, ℕ, List, [], ◌∷◌, Some, None, refl}
use Rattle.std.specs.Prelude.{option_map}
use Rattle.lang_meaning.specs.Values.{Value}
use Rattle.eval_store.specs.Words.{value_of_word}
use Rattle.eval_state.specs.declared.frame.ContinuationFrame.{ContinuationFrame}
use Rattle.eval_state.specs.declared.frame.ContinuationFrame.TheVariants as frame
use Rattle.eval_state.specs.declared.links.LinkKind.TheVariants.{Handlers}
use Rattle.eval_state.specs.declared.machine.Machine.{Machine}
use Rattle.eval_state.specs.Chains.{Linking}
use Rattle.eval_state.specs.Frames.{handler_link}
use Rattle.eval_state.specs.Links.{next_of, IsNoneNearer, IsNearest}
use Rattle.eval_state.proofs.Following.{AreLinked, none_further, one_further, has_things}
use Rattle.eval_application.specs.declared.signalling.Handler.{Handler}
use Rattle.eval_application.specs.Signalling.{IsHandled, IsUnhandled}

-- the handlers are those of frames that link handlers
next_handler : (names : List (List ℕ)) (w : ContinuationFrame) → next_of Handlers w ≡ option_map (λ (l : Linking Value). l.next) (handler_link names w)
next_handler names (frame.Handles w n) = refl
next_handler names w = refl

handlers_linked : (names : List (List ℕ)) → AreLinked Handlers (handler_link names)
handlers_linked names = record { next_is = next_handler names }

-- a frame that links handlers makes one
pub makes_one : (names : List (List ℕ)) (items : List ContinuationFrame) (link behind : ℕ) (w : ContinuationFrame) → IsNearest Handlers items link w behind
    → option_map (λ (l : Linking Value). l.items) (handler_link names w) ≡ None → ⊥
makes_one names items link behind w n h = has_things Handlers (handler_link names) items link behind w (handlers_linked names) n h

-- no handler is left
pub none_there : (m : Machine) (link : ℕ) → IsNoneNearer Handlers m.frames.items 0 link → IsUnhandled m link
none_there m link f = record { handlers = λ names. none_further Handlers (handler_link names) m.frames.items link (handlers_linked names) f }

-- the innermost one, and those outside it
pub one_there : (m : Machine) (link : ℕ) (w : ContinuationFrame) (h : Handler) → IsNearest Handlers m.frames.items link w h.outside
    → ((names : List (List ℕ)) → option_map (λ (l : Linking Value). l.items) (handler_link names w) ≡ Some (value_of_word names h.word ∷ []))
    → IsHandled m link h
one_there m link w h n made = record {
  handlers = λ names.
      one_further Handlers (handler_link names) m.frames.items link h.outside w (value_of_word names h.word ∷ []) (handlers_linked names) n (made names);
}
