use Rattle.door.proofs.Stored.{problem_stored}
use Rattle.door.proofs.problems.put_problem.Goals as goal

pub returns : goal.returns
returns c = let a = c.args in problem_stored a.s.now a.n a.m a.mode a.l c.requires
    c.put_pair.ensures
    c.put_pair-2.ensures
    c.put_place.ensures
    c.put_place-2.ensures
    c.put_place-3.ensures
    c.put_place-4.ensures
