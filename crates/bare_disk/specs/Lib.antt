pub mod BareDisk
