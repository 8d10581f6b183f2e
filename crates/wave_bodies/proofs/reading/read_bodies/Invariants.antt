use Rattle.std.proofs.Common.{◌≡◌, take}
use Rattle.fitting_laws.specs.Indexes.{index_of}
use Rattle.wave_bodies.specs.Asking.{requests_from}
use Rattle.wave_bodies.specs.Read.{HasRead}
use Rattle.wave_bodies.proofs.Pages.{page_behind}
use Rattle.wave_bodies.proofs.reading.read_bodies.Given as goal

abbrev pub invariant-loop-place : goal.invariant-loop-place
invariant-loop-place g l = record {
  page_is : l.page ≡ page_behind (take l.place l.body-items) l.fn.page;
  read : HasRead l.index (requests_from (index_of l.index) l.fn.page (take l.place l.body-items)) (take l.place l.refusals) l.progress.asked l.progress.searches.items l.progress.rooms.items;
}
