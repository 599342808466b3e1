-- What a call of several sessions has done.
use Rattle.std.specs.Prelude.{◌≡◌, ◌≤◌, List, ◌++◌, All, Option, None}
use Rattle.std.specs.List.{sum_by}
use Rattle.outside.specs.Spawning.{SpawnerTells}
use Rattle.outside.specs.declared.spawner.Run.{Run}
use Rattle.alert_queue.specs.Queues.{Queued}
use Rattle.alert_queue.specs.declared.types.NoteMark.{NoteMark}
use Rattle.alert_sessions.specs.declared.orders.Orders.{Orders}
use Rattle.alert_marks.specs.declared.types.AddError.{AddError}
use Rattle.alert_sessions.specs.Runs.{IsRunOf, RisenBy, EachAdds, faults_of, count_bad, count_good}
use Rattle.alert_sessions.specs.Calls.{AreInOrder, EachMarked, limits_of, count_done}

-- It made these marks behind those that were there, each recipient's in order, and where it didn't stop every note has one. Each
-- spawner that tells its runs tells those of this call behind those before, and each is of one of the notes. Together at
-- least as many failed as the limits of the notes that were marked Failed, and the counts rose by as many, or stand at
-- their last value; at least as many ended well as notes were marked Done.
pub record CameTo (orders : Orders) (start : Queued) (kept list : List NoteMark) (stopped : Option AddError) (spawners spawners' : List SpawnerTells) : Type 0 where
  pub made : List NoteMark
  pub list_is : list ≡ kept ++ made
  pub order : AreInOrder start made
  pub marked : stopped ≡ None → EachMarked start made
  pub runs : List (List Run)
  pub each : All (All (IsRunOf orders)) runs
  pub told : EachAdds spawners spawners' runs
  pub risen : RisenBy (sum_by count_bad runs) (faults_of spawners) (faults_of spawners')
  pub failed : limits_of start made ≤ sum_by count_bad runs
  pub done : count_done made ≤ sum_by count_good runs
