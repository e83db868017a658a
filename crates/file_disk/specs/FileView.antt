-- What a `FileView` shows.
use Rattle.disk_model.specs.DiskState.{DiskState}
use Rattle.file_disk.specs.Opened.{opened}
use Rattle.file_disk.specs.declared.view.FileView.{FileView}

-- the device that it is: it has a size and its count of failures, and never a sync; of its bytes nothing is known
abbrev pub view_of : {F : Type 0} → FileView F → DiskState
view_of d = record (opened d.size) { failures = d.failures }
