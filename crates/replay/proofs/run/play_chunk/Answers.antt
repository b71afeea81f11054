-- A record that was found is one, with its body in the chunk.
use mathlib.Core.Path.{◌≡◌, sym, ap, subst, ◌∙◌}
use mathlib.Core.List.{List, [], ◌∷◌, append-nil}
use Prim.Native.Nat.{ℕ, ◌-◌}
use native.Mathlib.Omega.{arith}
use lib.ListN.{take, drop}
use Rattle.capture.specs.Records.{entry, Located, located, Good}
use Rattle.capture.specs.Logs.{entry_of}
use Rattle.capture.proofs.OneRecord.{Spelled, one_record}
use Rattle.replay.specs.Play.{next, line_for, after_all, lines_from}
use Rattle.replay.specs.Playback.{state_of}
use Rattle.replay.specs.Chunks.{entry_in, after_chunk, chunk_lines}
use Rattle.replay.proofs.LawsChunks.{there, none_there, one_there}
use Rattle.std.specs.Option.{option_flatten}
use Rattle.replay.proofs.run.play_chunk.Goals as goal
use Rattle.replay.proofs.run.play_chunk.Goals.{In_ok-record}

-- the part that is lent is the body
body : {xs : List ℕ} {r : Located} → Spelled xs 0 r → entry r.direction (take (r.next - r.start) (drop r.start xs)) ≡ entry_of xs r
unfolding entry_of
body {xs} {r} s = let size : r.next - r.start ≡ r.len = omega (arith, s.next) in rw size

found : (c : In_ok-record) → Spelled c.args.chunk.now 0 (located c.in_ok-record.record) × (entry_in c.args.chunk.now ≡ entry_of c.args.chunk.now (located c.in_ok-record.record) ∷ [])
found c =
    let is = one_there c.args.chunk.now c.read_record.result c.read_record.ensures (ap option_flatten (sym c.ok.ensures.value) ∙ sym c.flatten.ensures ∙ c.in_ok-record.was) in
    (one_record c.args.chunk.now 0 (λ k. (c.type_inv.chunk k).fits) is, there _ is)

pub play-requires : goal.play-requires
play-requires c =
    let s = (found (goal.at.play-requires c).In_ok-record).0 in
    let g = subst Good (sym (body s)) s.good in
    (g.least, g.most)

pub returns : goal.returns
unfolding after_chunk after_all chunk_lines lines_from
returns c =
    let f = found (goal.at.returns c).In_ok-record in
    let played = c.play.ensures in
    let r = located c.in_ok-record.record in
    let is = ap (λ d. entry d (take (r.next - r.start) (drop r.start c.args.chunk.now))) c.from.ensures ∙ body f.0 in
    record {
      state = rw f.1 (played.state ∙ ap (next _) is);
      line = rw f.1 (played.line ∙ ap (line_for (state_of c.args.playback.now)) is ∙ sym (append-nil _));
      ended = rw f.1;
    }

-- nothing is played
pub returns-in_err-record : goal.returns-in_err-record
unfolding after_chunk after_all chunk_lines lines_from
returns-in_err-record c =
    let missed = ap option_flatten (sym c.ok.ensures.value) ∙ sym c.flatten.ensures ∙ c.in_err-record.was in
    let none = none_there c.args.chunk.now c.read_record.result c.read_record.ensures missed in
    let ended = c.from_residual.ensures in
    record { state = rw none; line = rw (none, ended); ended = rw (none, ended) }
