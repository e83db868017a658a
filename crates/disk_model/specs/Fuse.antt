-- Which calls of a device in memory fail.
use Rattle.std.specs.Prelude.{◌-◌, Bool, false, nat_le, if◌then◌else◌}
use Rattle.disk_model.specs.declared.fuse.Fuse.{Fuse}
use Rattle.disk_model.specs.declared.fuse.Fuse.TheVariants.{Off, Once, Dead, Change}

-- this call fails; it is a change or is none
abbrev pub burns : Fuse → Bool → Bool
burns Off is_change = false
burns (Once k) is_change = nat_le k 1
burns (Dead k) is_change = nat_le k 1
burns (Change k) is_change = if is_change then nat_le k 1 else false

-- what is left of the fuse after it
abbrev pub fuse_after : Fuse → Bool → Fuse
fuse_after Off is_change = Off
fuse_after (Once k) is_change = if nat_le k 1 then Off else Once (k - 1)
fuse_after (Dead k) is_change = Dead (if nat_le k 1 then 1 else k - 1)
fuse_after (Change k) is_change = if is_change then (if nat_le k 1 then Dead 1 else Change (k - 1)) else Change k
