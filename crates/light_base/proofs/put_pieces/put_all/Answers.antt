use Rattle.light_base.proofs.PutFront.{put_more}
use Rattle.light_base.proofs.put_pieces.put_all.Goals as goal

pub loop-rest-preserved : goal.loop-rest-preserved
loop-rest-preserved g c =
    let put = c.in_ok-count.ensures.put in
    put_more _ _ _ _ _ _ c.in_ok-count.count c.loop-rest.invariant c.split_at.ensures.back put.2
