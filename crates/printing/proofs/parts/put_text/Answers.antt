use Prim.Native.Nat.{◌+◌, ◌*◌}
use mathlib.Core.Path.{refl}
use native.Mathlib.Omega.{arith}
use Rattle.decimals.proofs.Putting.{put_then, put_as}
use Rattle.printing.proofs.Parting.{routes_lines, routes_refused, routes_small, entries_small}
use Rattle.printing.proofs.parts.put_text.Goals as goal

pub returns-then-t-eq0 : goal.returns-then-t-eq0
returns-then-t-eq0 c = let forwarded = c.put_forward_part.ensures in let routes = c.put_routes-end.ensures in let laws = c.put_laws-at.ensures in put_as (put_then laws (routes_lines c.args.l c.args.n (41 + c.args.n * (c.args.m * 79)) c.args.t c.args.r.now _ _ _ c.requires.2 c.if-t-eq0.true routes forwarded))
    refl (omega (arith, routes_small c.args.n c.requires.0.few, entries_small c.args.n c.args.m c.requires.0.few c.requires.1.few_destinations))

pub returns : goal.returns
returns c = let refused = c.put_refused_line.ensures in let laws = c.put_laws-at.ensures in put_as (put_then laws (routes_refused c.args.l c.args.n (41 + c.args.n * (c.args.m * 79)) c.args.t c.args.r.now _ _ _ c.if-t-eq0.false refused))
    refl (omega (arith, routes_small c.args.n c.requires.0.few, entries_small c.args.n c.args.m c.requires.0.few c.requires.1.few_destinations))
