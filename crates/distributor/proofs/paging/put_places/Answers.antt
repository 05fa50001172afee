use native.Mathlib.Omega.{arith}
use mathlib.Core.Path.{refl, sym, ◌∙◌}
use Rattle.distributor.proofs.EntryLaws.{put_none, put_vacant, put_live, live_room, put_done}
use Rattle.distributor.proofs.paging.put_places.Goals as goal
use Rattle.distributor.proofs.paging.put_places.Goals.{then-s, else-s}

pub loop-place-init : goal.loop-place-init
loop-place-init c = (refl, put_none c.args.state.now c.args.shown _ _ c.requires.1.few)

pub put_entry-w-requires : goal.put_entry-w-requires
put_entry-w-requires c =
    let l = c.loop-place in
    let k = c.loop-place-test.true in
    let s = c.state_at-s.ensures in (
      record {
        few = l.invariant.1.few;
        room = omega (arith, live_room c.args.state.now c.args.shown c.requires.0 _ _ _ _ l.place l.invariant.1 k (λ z. c.if-s.true (s ∙ z)), c.requires.1.room, l.invariant.0);
      },
      omega (arith, c.requires.0),
    )

pub loop-place-preserved : goal.loop-place-preserved
loop-place-preserved c =
    let a = c.args in
    let l = c.loop-place in
    let k = c.loop-place-test.true in
    let s = c.state_at-s.ensures in
    elim c.if-s.branch [
      | then-s w ↦ (
        rw w.out-is (omega (arith, l.invariant.0)),
        rw (w.out-is, w.w-is)
            (put_live a.state.now a.shown c.requires.0 _ _ l.out l.w l.place l.invariant.1 k (λ z. w.if-s.true (s ∙ z)) w.put_entry-w.new.out w.put_entry-w.result w.put_entry-w.ensures.0 s w.endpoint_at.ensures w.put_entry-w.ensures.1),
      )
      | else-s w ↦ (
        rw w.out-is l.invariant.0,
        rw (w.out-is, w.w-is) (put_vacant a.state.now a.shown c.requires.0 _ _ l.out l.w l.place l.invariant.1 k (sym s ∙ w.if-s.false)),
      )
    ]

pub shape_of-out : goal.shape_of-out
shape_of-out c = c.loop-place.invariant.0

pub returns : goal.returns
returns c =
    let l = c.loop-place in
    put_done c.args.state.now c.args.shown c.requires.0 _ _ _ _ l.place l.invariant.1 (omega arith)
