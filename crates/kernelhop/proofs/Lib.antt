pub mod QuickNo
