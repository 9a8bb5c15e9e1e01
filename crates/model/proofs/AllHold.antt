-- The definition answers P1 to P12 and the listing as the specification says, the edges as the crate does, or where it has no such answer as the
-- requests say, and turns as they are counted: each list by one computation. Assumes nothing.
use mathlib.Core.Path.{refl}
use Rattle.model.specs.Calls.{make, make_u, answers, after, step, clone_s, clone_r, try_send, try_res, open_out, open_in, poll_out, cancel_out, permit_send, permit_drop, try_recv, poll_in, cancel_in, drop_s, drop_r, status}
use Rattle.model.specs.Histories.{played, histories, edges, turns, worn, Hold, HoldLate, PollChangesNothing}

pub all_hold : Hold histories
unfolding played make step answers clone_s clone_r try_send try_res open_out open_in poll_out cancel_out permit_send permit_drop try_recv poll_in cancel_in drop_s drop_r status
all_hold = refl

pub edges_hold : Hold edges
unfolding played make make_u step answers clone_s clone_r try_send try_res open_out open_in poll_out cancel_out permit_send permit_drop try_recv poll_in cancel_in drop_s drop_r status
edges_hold = refl

pub turns_hold : Hold turns
unfolding played make make_u step answers clone_s clone_r try_send try_res open_out open_in poll_out cancel_out permit_send permit_drop try_recv poll_in cancel_in drop_s drop_r
turns_hold = refl

pub worn_hold : HoldLate worn
unfolding step answers clone_s clone_r try_send try_res open_out open_in poll_out cancel_out permit_send permit_drop try_recv cancel_in drop_s drop_r status
worn_hold = refl

pub poll_changes_nothing : PollChangesNothing
unfolding step after try_res open_out poll_out
poll_changes_nothing = refl
