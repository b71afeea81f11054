-- A call more, by what it read and left.
use mathlib.Core.Path.{sym, subst}
use Prim.Native.Nat.{◌<◌}
use native.Mathlib.Omega.{arith}
use borrow.Author.Tests.{eqb-true, eqb-false}
use lib.ListN.{length}
use Rattle.ncp.specs.Serve.{state_of, KeepsState}
use Rattle.ncp.proofs.LawsServing.{next_keeps, left_start, left_end, Went, went}
use Rattle.ncp.proofs.turn.Session.serve_chunk.Goals as goal
use Rattle.ncp.proofs.turn.Session.serve_chunk.Goals.{In_ok-line}

pub loop-rest-init : goal.loop-rest-init
loop-rest-init c = record { keeps = c.requires; left = left_start _ _ }

-- the call left a state that keeps its rules, whether or not its line was written
pub returns-in_err-line-clause-keeps : goal.returns-in_err-line-clause-keeps
returns-in_err-line-clause-keeps c = subst KeepsState (sym c.serve_call-read.ensures.state) (next_keeps _ _ c.loop-rest.invariant.keeps)

call : (c : In_ok-line) → Went (state_of c.args.self.now c.args.assembly.now) c.args.chunk.now c.loop-rest.rest.now c.serve_call-read.result.read (state_of c.serve_call-read.new.self c.serve_call-read.new.assembly)
call c =
    let w = c.loop-rest in
    let some : 0 < length w.rest.now = omega (arith, eqb-false (length w.rest.now) 0 (sym c.loop-rest-test.ensures)) in
    went _ _ (state_of w.self w.assembly) w.rest.now w.invariant.keeps some w.invariant.left c.serve_call-read.ensures.read c.serve_call-read.ensures.state

pub slice_bounds-rest-count : goal.slice_bounds-rest-count
slice_bounds-rest-count c = (call (goal.at.slice_bounds-rest-count c).In_ok-line).within

pub slice_bounds-rest-start : goal.slice_bounds-rest-start
slice_bounds-rest-start c = (call (goal.at.slice_bounds-rest-start c).In_ok-line).within

pub loop-rest-smaller : goal.loop-rest-smaller
loop-rest-smaller c = (call (goal.at.loop-rest-smaller c).In_ok-line).less

pub loop-rest-preserved : goal.loop-rest-preserved
loop-rest-preserved c =
    let e = call (goal.at.loop-rest-preserved c).In_ok-line in record { keeps = e.keeps; left = e.left }

pub returns-clause-state : goal.returns-clause-state
returns-clause-state c =
    let w = c.loop-rest in left_end _ _ _ _ (eqb-true (length w.rest.now) 0 (sym c.loop-rest-test.ensures)) w.invariant.left
