-- The form of each kind is made of the forms as the definition says.
use Rattle.front_elaboration.proofs.elaborate.make_of_forms.Goals as goal

pub returns-in-Ready : goal.returns-in-Ready
returns-in-Ready c = λ rs e o. rw c.in-Ready.is c.leaf_form.ensures

pub returns-in-OfOne : goal.returns-in-OfOne
returns-in-OfOne c = λ rs e o. rw (c.in-OfOne.is, e) c.make_one.ensures

pub returns-in-OfTwo : goal.returns-in-OfTwo
returns-in-OfTwo c = λ rs e o. rw (c.in-OfTwo.is, e) c.make_two.ensures

pub returns-in-OfBody : goal.returns-in-OfBody
returns-in-OfBody c = λ rs e o. rw (c.in-OfBody.is, e) c.make_with_body.ensures

pub returns-in-InSequence : goal.returns-in-InSequence
returns-in-InSequence c = λ rs e o. rw (c.in-InSequence.is, e) c.sequence.ensures

pub returns-in-CallOf : goal.returns-in-CallOf
returns-in-CallOf c = λ rs e o. rw (c.in-CallOf.is, e) c.new.ensures

pub returns-in-CallOfValue : goal.returns-in-CallOfValue
returns-in-CallOfValue c = λ rs e o. rw (c.in-CallOfValue.is, e) c.new-in-CallOfValue.ensures

pub returns-in-CallOfLocal : goal.returns-in-CallOfLocal
returns-in-CallOfLocal c = λ rs e o. rw (c.in-CallOfLocal.is, e) c.call_of_local.ensures

pub returns-in-CallOfPrimitive : goal.returns-in-CallOfPrimitive
returns-in-CallOfPrimitive c = λ rs e o. rw (c.in-CallOfPrimitive.is, e) c.prim.ensures

pub returns-in-OfClauses : goal.returns-in-OfClauses
returns-in-OfClauses c = λ rs e o. rw (c.in-OfClauses.is, e) c.make_clauses.ensures

pub returns-in-OfDynamics : goal.returns-in-OfDynamics
returns-in-OfDynamics c = λ rs e o. rw (c.in-OfDynamics.is, e) c.make_dynamics.ensures

pub returns-in-OfBlock : goal.returns-in-OfBlock
returns-in-OfBlock c = λ rs e o. rw (c.in-OfBlock.is, e) c.make_block.ensures

pub returns-in-OfSegments : goal.returns-in-OfSegments
returns-in-OfSegments c = λ rs e o. rw (c.in-OfSegments.is, e) c.make_segments.ensures
